use Rattle.std.proofs.Common.{◌≡◌, ◌+◌, ◌*◌, drop}
use Rattle.std.specs.List.{flat_map}
use Rattle.wat_walk.specs.declared.spine.Operation.{Operation}
use Rattle.wat_names.specs.Refusals.{first}
use Rattle.wat_names.specs.Columns.{in_expression, in_expressions}
use Rattle.wat_names.proofs.columns.+refused.Given as goal

abbrev pub invariant-in_expressions-loop-expr : goal.invariant-in_expressions-loop-expr
invariant-in_expressions-loop-expr l =
    first (flat_map (in_expression l.fn.schema l.fn.scope) (drop l.expr-index l.fn.exprs)) ≡ first (in_expressions l.fn.schema l.fn.scope l.fn.exprs)

abbrev pub invariant-in_expression-loop-operation : goal.invariant-in_expression-loop-operation
invariant-in_expression-loop-operation l =
    first (flat_map (λ (o : Operation). in_expression l.fn.schema l.fn.scope o.right.now) (drop l.operation-index l.operation-items)) ≡ first (in_expression l.fn.schema l.fn.scope l.fn.expr)

abbrev pub decreases-in_expressions : goal.decreases-in_expressions
decreases-in_expressions l = 3 * goal.size-in_expressions l + 2

abbrev pub decreases-in_operand : goal.decreases-in_operand
decreases-in_operand l = 3 * goal.size-in_operand l

abbrev pub decreases-in_expression : goal.decreases-in_expression
decreases-in_expression l = 3 * goal.size-in_expression l + 1
