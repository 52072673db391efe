use Rattle.std.proofs.Common.{ap, ◌∙◌}
use Rattle.wat_interval.specs.Ends.{joined_at}
use Rattle.wat_interval.proofs.EndLemmas.{tightest_next}
use Rattle.wat_interval.proofs.edge.tightest.Goals as goal

pub loop-test-preserved : goal.loop-test-preserved
loop-test-preserved c =
    let end = c.args.end in
    let found = c.loop-test.found in
    c.joined-found.ensures
    ∙ (ap (joined_at end found) c.edge.ensures ∙ tightest_next end c.args.tests.now c.loop-test.test-index c.test-item.result found c.loop-test-test.true c.test-item.is c.loop-test.invariant)
