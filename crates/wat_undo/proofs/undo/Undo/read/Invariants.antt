use Rattle.wat_undo.proofs.Spelling.{ReadsTo}
use Rattle.wat_undo.proofs.undo.Undo.read.Given as goal

abbrev pub invariant-loop-i : goal.invariant-loop-i
invariant-loop-i l = ReadsTo l.bytes l.undo l.rest l.next l._i
