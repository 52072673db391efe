use Rattle.std.proofs.Common.{◌∙◌, refl}
use Rattle.wat_typing.proofs.Spots.{spots_more}
use Rattle.wat_typing.proofs.rules.spot_set.Goals as goal

pub loop-column-preserved : goal.loop-column-preserved
loop-column-preserved c =
    λ other.
    c.in_ok-insert.ensures.updates.0 other
    ∙ spots_more other c.args.columns.now c.loop-column.column-index _ _ _ c.loop-column-test.true refl (c.loop-column.invariant other)
