use Rattle.wat_dump.proofs.Texts.{index_goes}
use Rattle.wat_dump.proofs.writing.push_indexes.Goals as goal

pub loop-index-preserved : goal.loop-index-preserved
loop-index-preserved c =
    index_goes c.args.schema.now c.args.def.now c.args.indexes.now c.loop-index.index-index c.index-item.result _ c.loop-index.out.items c.push_own_index.new.out.items c.loop-index-test.true c.index-item.is c.loop-index.invariant
    c.in_ok-push_own_index.ensures
