use Rattle.wat_undo.proofs.Spelling.{Writes}
use Rattle.wat_undo.proofs.undo.Undo.payload.Given as goal

abbrev pub invariant-loop-conn : goal.invariant-loop-conn
invariant-loop-conn l = Writes l.self l.out.items l.conn-iterator
