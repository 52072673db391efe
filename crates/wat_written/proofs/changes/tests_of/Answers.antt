use Rattle.wat_written.specs.Written.{test_of}
use Rattle.wat_written.proofs.Loops.{tests_more}
use Rattle.wat_written.proofs.changes.tests_of.Goals as goal

pub loop-number-preserved : goal.loop-number-preserved
loop-number-preserved c =
    tests_more (test_of c.args.def.now c.args.row.now) c.args.numbers.now c.loop-number.number-index c.loop-number.tests c.in_ok-test.test c.in_ok-tests.tests c.loop-number-test.true c.loop-number.invariant
    c.in_ok-test.ensures c.in_ok-tests.ensures
