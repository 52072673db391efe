use Rattle.std.proofs.Common.{◌-◌, length}
use Rattle.wat_locks.proofs.FreedLemmas.{HasFreed}
use Rattle.wat_locks.proofs.locks.take_out.Given as goal

abbrev pub invariant-loop-i : goal.invariant-loop-i
invariant-loop-i g l = HasFreed l.conn l.scan l.fn.tables.items l.tables.items l.i l.fn.steps l.steps

abbrev pub decreases-loop-i : goal.decreases-loop-i
decreases-loop-i g l = length l.tables.items - l.i
