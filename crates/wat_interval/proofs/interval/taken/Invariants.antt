use Rattle.std.proofs.Common.{◌≡◌, ◌++◌, take, drop}
use Rattle.wat_interval.specs.Tests.{taken}
use Rattle.wat_interval.proofs.interval.taken.Given as goal

abbrev pub invariant-loop-i : goal.invariant-loop-i
invariant-loop-i l = taken l.columns ≡ take l.i l.columns ++ taken (drop l.i l.columns)
