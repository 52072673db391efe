use Rattle.std.proofs.Common.{◌≡◌, drop}
use Rattle.std.specs.List.{flat_map, filter_map}
use Rattle.wat_ast.specs.declared.query.OrderItem.{OrderItem}
use Rattle.std.specs.Option.{option_to_list}
use Rattle.wat_walk.specs.Queries.{order_column}
use Rattle.wat_names.specs.Refusals.{first}
use Rattle.wat_names.specs.Columns.{in_expressions}
use Rattle.wat_names.proofs.columns.in_orders.Given as goal

abbrev pub invariant-loop-item : goal.invariant-loop-item
invariant-loop-item l =
    first (flat_map (λ (item : OrderItem). in_expressions l.fn.schema l.fn.scope (option_to_list (order_column item))) (drop l.item-index l.fn.order))
    ≡ first (in_expressions l.fn.schema l.fn.scope (filter_map order_column l.fn.order))
