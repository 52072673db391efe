use denote.Param.Weighed.{most, at_most}
use Rattle.std.proofs.Common.{arith, ◌≡◌, ◌<◌, ◌+◌, ◌*◌, length, get_or, ap, ◌∙◌}
use Rattle.wat_ast.specs.declared.expression.Expr.{size-Expr}
use Rattle.wat_walk.proofs.Chains.{first_fits, operand_is_smaller}
use Rattle.wat_walk.specs.Chain.{chain}
use Rattle.std.proofs.lemmas.Result.{IfOk-weaker}
use Rattle.wat_expr.specs.Evaluation.{outcome_of}
use Rattle.wat_expr.specs.Private.{outcome_so_far}
use Rattle.wat_expr.specs.Private.{over_context}
use Rattle.wat_expr.proofs.EvaluationLemmas.{chain_done, in_list_is}
use Rattle.wat_expr.proofs.evaluation.+evaluation.Goals as goal

pub among-evaluate-requires : goal.among-evaluate-requires
among-evaluate-requires t c =
    let items = c.args.items.now in
    let most_is = at_most size-Expr items c.loop-item.item-index c.item-item.result c.loop-item-test.true in
    let size : size-Expr c.item-item.result ≡ size-Expr (get_or items c.loop-item.item-index c.item-item.result) = ap size-Expr c.item-item.is in
    let falls : 4 * most size-Expr items + 2 ≡ t = c.decreases in
    let below : 4 * size-Expr c.item-item.result + 1 < t = omega arith in
    (below, tt)

pub evaluate-operand-requires : goal.evaluate-operand-requires
evaluate-operand-requires t c =
    let fits = first_fits c.in_ok-spine.spine.first.now c.in_ok-spine.spine.operations.items in
    let whole : size-Expr (chain c.in_ok-spine.spine.first.now c.in_ok-spine.spine.operations.items) ≡ size-Expr c.args.expr.now = ap size-Expr c.in_ok-spine.ensures.whole in
    let falls : 4 * size-Expr c.args.expr.now + 1 ≡ t = c.decreases in
    let below : 4 * size-Expr c.in_ok-spine.spine.first.now < t = omega arith in
    (below, c.in_ok-spine.ensures.first)

pub evaluate-evaluate-requires : goal.evaluate-evaluate-requires
evaluate-evaluate-requires t c =
    let operations = c.in_ok-spine.spine.operations.items in
    let o = c.operation-item.result in
    let same = c.deref-operation-items.ensures.value in
    let is : o ≡ get_or operations c.loop-operation.operation-index o = c.operation-item.is ∙ ap (λ os. get_or os c.loop-operation.operation-index o) same in
    let size : size-Expr o.right.now ≡ size-Expr (get_or operations c.loop-operation.operation-index o).right.now = ap (λ x. size-Expr x.right.now) is in
    let lengths : length c.deref-operation-items.result.now ≡ length operations = ap length same in
    let within : c.loop-operation.operation-index < length operations = omega arith in
    let smaller = operand_is_smaller c.in_ok-spine.spine.first.now operations c.loop-operation.operation-index o within in
    let whole : size-Expr (chain c.in_ok-spine.spine.first.now operations) ≡ size-Expr c.args.expr.now = ap size-Expr c.in_ok-spine.ensures.whole in
    let falls : 4 * size-Expr c.args.expr.now + 1 ≡ t = c.decreases in
    let below : 4 * size-Expr o.right.now + 1 < t = omega arith in
    (below, tt)

pub evaluate-returns : goal.evaluate-returns
evaluate-returns t c =
    let at = over_context c.args.context.now in
    IfOk-weaker c.into_outcome.result (λ o. o ≡ outcome_so_far c.loop-operation.left) (λ o. o ≡ outcome_of c.args.expr.now at)
    (λ o e. e ∙ chain_done c.in_ok-spine.spine.first.now c.args.expr.now c.in_ok-spine.spine.operations.items c.deref-operation-items.result.now at c.in_ok-first.first (outcome_so_far c.loop-operation.left)
    c.loop-operation.operation-index c.in_ok-spine.ensures.whole c.deref-operation-items.ensures.value c.loop-operation-test.false c.in_ok-first.ensures c.loop-operation.invariant)
    c.into_outcome.ensures

pub operand-returns-in_ok-found-in-InList : goal.operand-returns-in_ok-found-in-InList
operand-returns-in_ok-found-in-InList t c =
    in_list_is c.in-InList.arg c.get-in-InList.result.now c.args.expr.now c.in-InList.items c.as_slice.result.now c.in-InList.negated (over_context c.args.context.now) c.in_ok-a-in-InList.a
    c.in_ok-found-in-InList.found c.negated_if-in-InList.result c.in-InList.is c.get-in-InList.ensures c.as_slice.ensures c.in_ok-a-in-InList.ensures c.in_ok-found-in-InList.ensures c.negated_if-in-InList.ensures
