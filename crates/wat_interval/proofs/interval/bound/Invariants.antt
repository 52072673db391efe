use Rattle.wat_interval.proofs.EndLemmas.{IsSoFar}
use Rattle.wat_interval.proofs.interval.bound.Given as goal

abbrev pub invariant-loop-tests : goal.invariant-loop-tests
invariant-loop-tests l = IsSoFar l.end l.columns l.tests-index l.key
