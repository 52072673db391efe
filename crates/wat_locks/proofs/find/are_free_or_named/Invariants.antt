use Rattle.std.proofs.Common.{drop, filter}
use Rattle.wat_locks.specs.Tables.{all_held, is_of}
use Rattle.wat_locks.proofs.HeldLemmas.{ComesFrom}
use Rattle.wat_locks.proofs.find.are_free_or_named.Given as goal

abbrev pub invariant-loop-want : goal.invariant-loop-want
invariant-loop-want l = ComesFrom (filter (λ h. is_of l.only h.conn) (all_held l.tables)) l.conn (drop l.want-index l.wants) l.wants
