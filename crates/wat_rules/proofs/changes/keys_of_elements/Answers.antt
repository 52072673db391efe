use Rattle.wat_rules.specs.Changes.{key_of}
use Rattle.wat_typing.proofs.Steps.{filter_map_next}
use Rattle.wat_rules.proofs.changes.keys_of_elements.Goals as goal

pub loop-element-preserved : goal.loop-element-preserved
loop-element-preserved c =
    filter_map_next key_of c.args.elements.now c.loop-element.element-index c.element-item.result c.loop-element.keys c.add_key.new.keys c.loop-element-test.true c.element-item.is c.loop-element.invariant c.in_ok-add_key.ensures
