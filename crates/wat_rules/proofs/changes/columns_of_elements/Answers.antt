use Rattle.wat_rules.specs.Changes.{column_of}
use Rattle.wat_typing.proofs.Steps.{filter_map_next}
use Rattle.wat_rules.proofs.changes.columns_of_elements.Goals as goal

pub loop-element-preserved : goal.loop-element-preserved
loop-element-preserved c =
    filter_map_next column_of c.args.elements.now c.loop-element.element-index c.element-item.result c.loop-element.columns c.add_column.new.columns c.loop-element-test.true c.element-item.is c.loop-element.invariant c.in_ok-add_column.ensures
