use Rattle.wat_core.specs.Opened.{NoneOpen}
use Rattle.wat_core.proofs.opened.first_open.Given as goal

abbrev pub invariant-loop-i : goal.invariant-loop-i
invariant-loop-i l = NoneOpen l.connections l.i
