-- What is known of a chain of operations, operand by operand.
use Rattle.std.proofs.Common.{◌≡◌, List}
use Rattle.std.specs.List.{fold}
use Rattle.wat_ast.specs.declared.expression.Expr.{Expr}
use Rattle.wat_ast.specs.declared.expression.Expr.TheOpen.{Expr-F}
use Rattle.wat_walk.specs.declared.spine.Operation.{Operation}
use Rattle.wat_walk.specs.Chain.{chain}
use Rattle.wat_scope.proofs.Chains.{chain_begun}
use Rattle.wat_types.specs.declared.typing.Typing.{Typing}
use Rattle.wat_types.specs.Types.{ColumnTypes, typing_of, typing_from, operator_type}
use Rattle.wat_types.proofs.TypeLemmas.{typing-Binary}

-- before the first operation
pub typing_begun : (columns : ColumnTypes) (head whole : Expr) (operations items : List Operation) (start : Typing) → chain head operations ≡ whole → items ≡ operations → start ≡ typing_of columns head
    → fold (λ (left : Typing) (o : Operation). typing_from (operator_type o.op) (Expr-F.Binary o.op left (typing_of columns o.right.now))) start items ≡ typing_of columns whole
typing_begun columns = chain_begun (typing_of columns) (λ op left right. typing_from (operator_type op) (Expr-F.Binary op left right)) (typing-Binary columns)
