use Rattle.std.proofs.Common.{◌≡◌, ◌++◌, ◌+◌, ◌*◌, take}
use Rattle.std.specs.List.{flat_map}
use Rattle.wat_walk.specs.Parts.{bare_in}
use Rattle.wat_walk.specs.declared.spine.Operation.{Operation}
use Rattle.wat_typing.specs.Rules.{bare_columns}
use Rattle.wat_typing.proofs.bare.+bare.Given as goal

abbrev pub decreases-add_bare_list : goal.decreases-add_bare_list
decreases-add_bare_list l = 3 * goal.size-add_bare_list l + 2

abbrev pub decreases-add_bare_operand : goal.decreases-add_bare_operand
decreases-add_bare_operand l = 3 * goal.size-add_bare_operand l

abbrev pub decreases-add_bare : goal.decreases-add_bare
decreases-add_bare l = 3 * goal.size-add_bare l + 1

abbrev pub invariant-add_bare_list-loop-expr : goal.invariant-add_bare_list-loop-expr
invariant-add_bare_list-loop-expr l = l.spots ≡ l.initial.spots ++ bare_columns (take l.expr-index l.fn.exprs)

abbrev pub invariant-add_bare-loop-operation : goal.invariant-add_bare-loop-operation
invariant-add_bare-loop-operation l = l.spots ≡ l.initial.spots ++ flat_map (λ (o : Operation). bare_in o.right.now) (take l.operation-index l.operation-items)
