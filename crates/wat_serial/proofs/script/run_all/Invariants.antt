use Rattle.std.proofs.Common.{◌≡◌, suc, drop}
use Rattle.wat_serial.specs.Script.{run_from}
use Rattle.wat_serial.proofs.script.run_all.Given as goal

abbrev pub invariant-loop-span : goal.invariant-loop-span
invariant-loop-span l = run_from l.text (suc l.number) (drop l.span-index l.spans) l.tables ≡ run_from l.text 1 l.spans l.initial.tables
