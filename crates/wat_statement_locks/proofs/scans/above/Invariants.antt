use Rattle.std.proofs.Common.{◌≤◌, ◌^◌, take}
use Rattle.wat_statement_locks.specs.Scans.{AreWantedBelow}
use Rattle.wat_statement_locks.proofs.scans.above.Given as goal

abbrev pub invariant-loop-want : goal.invariant-loop-want
invariant-loop-want l = AreWantedBelow l.most (take l.want-index l.wants) × (l.most ≤ 2 ^ 32)
