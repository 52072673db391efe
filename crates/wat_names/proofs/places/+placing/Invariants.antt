use Rattle.std.proofs.Common.{◌≡◌, ◌+◌, ◌*◌, map, take, drop}
use Rattle.std.specs.List.{fold}
use Rattle.wat_ast.specs.declared.expression.Expr.{Expr}
use Rattle.wat_ast.specs.declared.expression.Expr.TheVariants as e
use Rattle.wat_walk.specs.declared.spine.Operation.{Operation}
use Rattle.wat_names.specs.Places.{placed}
use Rattle.wat_names.proofs.places.+placing.Given as goal

abbrev pub decreases-placed_box : goal.decreases-placed_box
decreases-placed_box l = 3 * goal.size-placed_box l + 2

abbrev pub decreases-placed_list : goal.decreases-placed_list
decreases-placed_list l = 3 * goal.size-placed_list l + 2

abbrev pub decreases-placed_operand : goal.decreases-placed_operand
decreases-placed_operand l = 3 * goal.size-placed_operand l

abbrev pub decreases-placed : goal.decreases-placed
decreases-placed l = 3 * goal.size-placed l + 1

abbrev pub invariant-placed_list-loop-expr : goal.invariant-placed_list-loop-expr
invariant-placed_list-loop-expr l = l.trees ≡ map (placed l.fn.schema l.fn.scope) (take l.expr-index l.fn.exprs)

abbrev pub invariant-placed-loop-operation : goal.invariant-placed-loop-operation
invariant-placed-loop-operation l =
    fold (λ (left : Expr) (o : Operation). e.Binary o.op left (placed l.fn.schema l.fn.scope o.right.now)) l.tree (drop l.operation-index l.operation-items) ≡ placed l.fn.schema l.fn.scope l.fn.expr
