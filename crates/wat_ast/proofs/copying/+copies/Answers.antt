use Rattle.std.proofs.Common.{◌≡◌, ◌∙◌, ap, arith}
use Rattle.wat_ast.specs.declared.expression.Expr.{size-Expr}
use Rattle.wat_ast.specs.declared.expression.Expr.TheVariants as e
use Rattle.wat_ast.proofs.Growing.{goes_down, left_is_smaller}
use Rattle.wat_ast.proofs.copying.+copies.Goals as goal

pub copy_of-loop-rest-preserved : goal.copy_of-loop-rest-preserved
copy_of-loop-rest-preserved c = λ c'.
    let whole : size-Expr c'.loop-rest.rest.now ≡ size-Expr (e.Binary c'.in-Binary.op c'.in-Binary.left c'.in-Binary.right) = ap size-Expr c'.in-Binary.is in
    let left : size-Expr c'.get-rest.result.now ≡ size-Expr c'.in-Binary.left = ap size-Expr c'.get-rest.ensures in
    let less = left_is_smaller c'.in-Binary.op c'.in-Binary.left c'.in-Binary.right in
    let before = c'.loop-rest.invariant.1 in (
      goes_down c'.loop-rest.operations.items _ _ c'.loop-rest.rest.now _ _ _ _ c'.in_ok-right-in-Binary.right c'.in-Binary.is c'.get-rest.ensures (c'.in_ok-right-in-Binary.ensures ∙ c'.get.ensures) c'.in_ok-push-in-Binary.ensures.items c'.loop-rest.invariant.0,
      omega arith,
    )
