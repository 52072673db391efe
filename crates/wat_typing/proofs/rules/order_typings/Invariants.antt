use Rattle.std.proofs.Common.{◌≡◌, take}
use Rattle.std.specs.List.{filter_map}
use Rattle.wat_walk.specs.Queries.{order_column}
use Rattle.wat_typing.specs.Rules.{typings}
use Rattle.wat_typing.proofs.rules.order_typings.Given as goal

abbrev pub invariant-loop-item : goal.invariant-loop-item
invariant-loop-item l = l.all ≡ typings l.fn.schema l.fn.scope (filter_map order_column (take l.item-index l.fn.order))
