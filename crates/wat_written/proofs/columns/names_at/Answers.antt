use Rattle.wat_written.specs.Written.{name_at}
use Rattle.wat_written.proofs.Loops.{names_more}
use Rattle.wat_written.proofs.columns.names_at.Goals as goal

pub loop-number-preserved : goal.loop-number-preserved
loop-number-preserved c =
    names_more (name_at c.args.def.now) c.args.numbers.now c.loop-number.number-index c.loop-number.names c.add_name.new.names c.loop-number-test.true c.loop-number.invariant c.in_ok-add_name.ensures
