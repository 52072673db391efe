use Rattle.std.proofs.Common.{take, filter}
use Rattle.wat_locks.specs.Tables.{all_held, is_of, IsNamedBy}
use Rattle.wat_locks.proofs.find.least_in_the_way.Given as goal

abbrev pub invariant-loop-next : goal.invariant-loop-next
invariant-loop-next l = IsNamedBy (filter (λ h. is_of l.only h.conn) (all_held (take l.next-index l.tables))) l.conn l.lock l.best
