use Rattle.std.proofs.Common.{◌≡◌, take}
use Rattle.wat_interval.specs.Ends.{tightest_at}
use Rattle.wat_interval.proofs.edge.tightest.Given as goal

abbrev pub invariant-loop-test : goal.invariant-loop-test
invariant-loop-test l = l.found ≡ tightest_at l.end (take l.test-index l.tests)
