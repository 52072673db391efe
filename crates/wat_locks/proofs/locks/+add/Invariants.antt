use Rattle.std.proofs.Common.{◌-◌, length}
use Rattle.wat_locks.proofs.locks.+add.Given as goal

abbrev pub decreases-add : goal.decreases-add
decreases-add l = length l.wants.now - l.i
