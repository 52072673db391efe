use Rattle.wat_locks.specs.Held.{Compatible, Frees}
use Rattle.wat_statement_locks.proofs.LockLemmas.{IsShortBelow}
use Rattle.wat_statement_locks.proofs.freeing.free_below.Given as goal

abbrev pub invariant-loop-scan : goal.invariant-loop-scan
invariant-loop-scan l = Frees l.fn.locks l.locks (IsShortBelow l.conn l.scan) × Compatible l.locks
