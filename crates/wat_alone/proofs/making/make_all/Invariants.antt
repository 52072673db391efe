use Rattle.std.proofs.Common.{◌≡◌, take}
use Rattle.wat_alone.specs.Alone.{made}
use Rattle.wat_alone.proofs.making.make_all.Given as goal

abbrev pub invariant-loop-act : goal.invariant-loop-act
invariant-loop-act l = l.tables ≡ made (take l.act-index l.acts) l.initial.tables
