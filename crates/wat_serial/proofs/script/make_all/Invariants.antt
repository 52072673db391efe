use Rattle.std.proofs.Common.{◌≡◌, drop}
use Rattle.wat_schema.specs.Tables.{apply_all}
use Rattle.wat_serial.proofs.script.make_all.Given as goal

abbrev pub invariant-loop-act : goal.invariant-loop-act
invariant-loop-act l = apply_all (drop l.act-index l.acts) l.tables ≡ apply_all l.acts l.initial.tables
