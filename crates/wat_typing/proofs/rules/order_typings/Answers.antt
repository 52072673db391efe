use Rattle.wat_walk.specs.Queries.{order_column}
use Rattle.wat_types.specs.Types.{typing_of}
use Rattle.wat_typing.specs.Rules.{types_of}
use Rattle.wat_typing.proofs.Steps.{map_filter_next}
use Rattle.wat_typing.proofs.rules.order_typings.Goals as goal

pub loop-item-preserved : goal.loop-item-preserved
loop-item-preserved c =
    map_filter_next (typing_of (types_of c.args.schema.now c.args.scope.now)) order_column c.args.order.now c.loop-item.item-index c.item-item.result c.loop-item.all c.add_order.new.all c.loop-item-test.true c.item-item.is c.loop-item.invariant c.in_ok-add_order.ensures
