use Rattle.std.proofs.Common.{◌≡◌, ◌||◌, ◌++◌, ◌+◌, ◌*◌, drop}
use Rattle.std.specs.List.{flat_map, list_any}
use Rattle.wat_walk.specs.Lent.{lent}
use Rattle.wat_walk.specs.Parts.{is_aggregated, arguments_in}
use Rattle.wat_walk.proofs.AggregateLemmas.{right_aggregated, right_arguments}
use Rattle.wat_walk.proofs.aggregates.+aggregates.Given as goal

abbrev pub decreases-add_chain : goal.decreases-add_chain
decreases-add_chain l = 3 * goal.size-add_chain l + 1

abbrev pub decreases-add_operand : goal.decreases-add_operand
decreases-add_operand l = 3 * goal.size-add_operand l

abbrev pub decreases-add_list : goal.decreases-add_list
decreases-add_list l = 3 * goal.size-add_list l + 2

abbrev pub invariant-add_chain-loop-operation : goal.invariant-add_chain-loop-operation
invariant-add_chain-loop-operation l = record {
  found : (l.aggregates.found || list_any right_aggregated (drop l.operation-index l.operation-items)) ≡ (l.initial.aggregates.found || list_any right_aggregated l.operation-items);
  arguments : lent l.aggregates.arguments.items ++ flat_map right_arguments (drop l.operation-index l.operation-items) ≡ lent l.initial.aggregates.arguments.items ++ flat_map right_arguments l.operation-items;
}

abbrev pub invariant-add_list-loop-expr : goal.invariant-add_list-loop-expr
invariant-add_list-loop-expr l = record {
  found : (l.aggregates.found || list_any is_aggregated (drop l.expr-index l.fn.exprs)) ≡ (l.initial.aggregates.found || list_any is_aggregated l.fn.exprs);
  arguments : lent l.aggregates.arguments.items ++ flat_map arguments_in (drop l.expr-index l.fn.exprs) ≡ lent l.initial.aggregates.arguments.items ++ flat_map arguments_in l.fn.exprs;
}
