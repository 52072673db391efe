use Rattle.std.proofs.Common.{◌≡◌, ◌++◌, take}
use Rattle.std.specs.List.{filter_map}
use Rattle.wat_walk.specs.Queries.{order_column}
use Rattle.wat_typing.specs.Rules.{bare_columns}
use Rattle.wat_typing.proofs.bare.add_bare_orders.Given as goal

abbrev pub invariant-loop-item : goal.invariant-loop-item
invariant-loop-item l = l.spots ≡ l.initial.spots ++ bare_columns (filter_map order_column (take l.item-index l.fn.order))
