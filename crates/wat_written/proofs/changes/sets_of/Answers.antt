use Rattle.wat_written.specs.Written.{set_unless_key}
use Rattle.wat_written.proofs.Loops.{sets_more}
use Rattle.wat_written.proofs.changes.sets_of.Goals as goal

pub loop-number-preserved : goal.loop-number-preserved
loop-number-preserved c = sets_more (set_unless_key c.args.def.now c.args.row.now) c.loop-number.number c.loop-number.sets c.add_set.new.sets c.loop-number.invariant c.in_ok-add_set.ensures
