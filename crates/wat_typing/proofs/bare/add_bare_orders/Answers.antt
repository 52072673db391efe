use Rattle.wat_walk.specs.Parts.{bare_in}
use Rattle.wat_walk.specs.Queries.{order_column}
use Rattle.wat_typing.proofs.Steps.{flat_filter_next}
use Rattle.wat_typing.proofs.bare.add_bare_orders.Goals as goal

pub loop-item-preserved : goal.loop-item-preserved
loop-item-preserved c =
    flat_filter_next bare_in order_column c.args.order.now c.loop-item.item-index c.item-item.result c.args.spots.now c.loop-item.spots c.add_bare_order.new.spots c.loop-item-test.true c.item-item.is c.loop-item.invariant c.in_ok-add_bare_order.ensures
