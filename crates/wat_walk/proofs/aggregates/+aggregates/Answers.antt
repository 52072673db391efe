use denote.Param.Weighed.{most, at_most}
use Rattle.std.proofs.Common.{arith, ◌≡◌, ◌<◌, ◌+◌, ◌*◌, length, get_or, ap, ◌∙◌}
use Rattle.wat_ast.specs.declared.expression.Expr.{size-Expr}
use Rattle.wat_walk.specs.Chain.{chain}
use Rattle.wat_walk.specs.Lent.{lent}
use Rattle.wat_walk.proofs.AggregateLemmas.{chain_found, chain_arguments}
use Rattle.wat_walk.proofs.Chains.{first_fits, operand_is_smaller}
use Rattle.wat_walk.proofs.aggregates.+aggregates.Goals as goal

pub add_list-add_chain-requires : goal.add_list-add_chain-requires
add_list-add_chain-requires t c =
    let exprs = c.args.exprs.now in
    let most_is = at_most size-Expr exprs c.loop-expr.expr-index c.expr-item.result c.loop-expr-test.true in
    let size : size-Expr c.expr-item.result ≡ size-Expr (get_or exprs c.loop-expr.expr-index c.expr-item.result) = ap size-Expr c.expr-item.is in
    let falls : 3 * most size-Expr exprs + 2 ≡ t = c.decreases in
    let below : 3 * size-Expr c.expr-item.result + 1 < t = omega arith in
    (below, tt)

pub add_chain-add_operand-requires : goal.add_chain-add_operand-requires
add_chain-add_operand-requires t c =
    let spine = c.in_ok-spine.spine in
    let fits = first_fits spine.first.now spine.operations.items in
    let whole : size-Expr (chain spine.first.now spine.operations.items) ≡ size-Expr c.args.expr.now = ap size-Expr c.in_ok-spine.ensures.whole in
    let falls : 3 * size-Expr c.args.expr.now + 1 ≡ t = c.decreases in
    let below : 3 * size-Expr spine.first.now < t = omega arith in
    (below, c.in_ok-spine.ensures.first)

pub add_chain-add_chain-requires : goal.add_chain-add_chain-requires
add_chain-add_chain-requires t c =
    let spine = c.in_ok-spine.spine in
    let operations = spine.operations.items in
    let o = c.operation-item.result in
    let same = c.deref-operation-items.ensures.value in
    let is : o ≡ get_or operations c.loop-operation.operation-index o = c.operation-item.is ∙ ap (λ os. get_or os c.loop-operation.operation-index o) same in
    let size : size-Expr o.right.now ≡ size-Expr (get_or operations c.loop-operation.operation-index o).right.now = ap (λ x. size-Expr x.right.now) is in
    let lengths : length c.deref-operation-items.result.now ≡ length operations = ap length same in
    let within : c.loop-operation.operation-index < length operations = omega arith in
    let smaller = operand_is_smaller spine.first.now operations c.loop-operation.operation-index o within in
    let whole : size-Expr (chain spine.first.now operations) ≡ size-Expr c.args.expr.now = ap size-Expr c.in_ok-spine.ensures.whole in
    let falls : 3 * size-Expr c.args.expr.now + 1 ≡ t = c.decreases in
    let below : 3 * size-Expr o.right.now + 1 < t = omega arith in
    (below, tt)

pub add_chain-returns-clause-found : goal.add_chain-returns-clause-found
add_chain-returns-clause-found t c =
    let spine = c.in_ok-spine.spine in
    chain_found spine.first.now c.args.expr.now spine.operations.items c.deref-operation-items.result.now c.args.aggregates.now.found c.add_operand.new.aggregates.found c.loop-operation.aggregates.found
    c.loop-operation.operation-index c.in_ok-spine.ensures.whole c.deref-operation-items.ensures.value c.loop-operation-test.false c.in_ok-add_operand.ensures.found c.loop-operation.invariant.found

pub add_chain-returns-clause-arguments : goal.add_chain-returns-clause-arguments
add_chain-returns-clause-arguments t c =
    let spine = c.in_ok-spine.spine in
    chain_arguments spine.first.now c.args.expr.now spine.operations.items c.deref-operation-items.result.now (lent c.args.aggregates.now.arguments.items) (lent c.add_operand.new.aggregates.arguments.items)
    (lent c.loop-operation.aggregates.arguments.items) c.loop-operation.operation-index c.in_ok-spine.ensures.whole c.deref-operation-items.ensures.value c.loop-operation-test.false
    c.in_ok-add_operand.ensures.arguments c.loop-operation.invariant.arguments
