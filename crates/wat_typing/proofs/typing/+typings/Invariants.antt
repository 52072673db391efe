use Rattle.std.proofs.Common.{◌≡◌, ◌+◌, ◌*◌, map, take, drop}
use Rattle.std.specs.List.{fold}
use Rattle.wat_ast.specs.declared.expression.Expr.TheOpen.{Expr-F}
use Rattle.wat_walk.specs.declared.spine.Operation.{Operation}
use Rattle.wat_types.specs.declared.typing.Typing.{Typing}
use Rattle.wat_types.specs.Types.{typing_of, typing_from, operator_type}
use Rattle.wat_typing.specs.Rules.{types_of}
use Rattle.wat_typing.proofs.typing.+typings.Given as goal

abbrev pub decreases-typings : goal.decreases-typings
decreases-typings l = 3 * goal.size-typings l + 2

abbrev pub decreases-operand_typing : goal.decreases-operand_typing
decreases-operand_typing l = 3 * goal.size-operand_typing l

abbrev pub decreases-typing_of : goal.decreases-typing_of
decreases-typing_of l = 3 * goal.size-typing_of l + 1

abbrev pub invariant-typings-loop-expr : goal.invariant-typings-loop-expr
invariant-typings-loop-expr l = l.all ≡ map (typing_of (types_of l.fn.schema l.fn.scope)) (take l.expr-index l.fn.exprs)

abbrev pub invariant-typing_of-loop-operation : goal.invariant-typing_of-loop-operation
invariant-typing_of-loop-operation l =
    fold (λ (left : Typing) (o : Operation). typing_from (operator_type o.op) (Expr-F.Binary o.op left (typing_of (types_of l.fn.schema l.fn.scope) o.right.now))) l.left (drop l.operation-index l.operation-items)
    ≡ typing_of (types_of l.fn.schema l.fn.scope) l.fn.expr
