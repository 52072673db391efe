use Rattle.std.proofs.Common.{◌≡◌, map, take}
use Rattle.wat_names.specs.Places.{placed_order}
use Rattle.wat_names.proofs.places.placed_orders.Given as goal

abbrev pub invariant-loop-item : goal.invariant-loop-item
invariant-loop-item l = l.orders ≡ map (placed_order l.fn.schema l.fn.scope) (take l.item-index l.fn.order)
