use Rattle.std.proofs.Common.{arith}
use Rattle.wat_typing.proofs.BareLemmas.{bare_done}
use Rattle.wat_scope.proofs.Chains.{head_fits, right_fits}
use Rattle.wat_typing.proofs.bare.+bare.Goals as goal

pub add_bare-add_bare_operand-requires : goal.add_bare-add_bare_operand-requires
add_bare-add_bare_operand-requires t c =
    let fits = head_fits c.in_ok-spine.spine.first.now c.args.expr.now c.in_ok-spine.spine.operations.items c.in_ok-spine.ensures.whole in
    (omega arith, c.in_ok-spine.ensures.first)

pub add_bare-add_bare-requires : goal.add_bare-add_bare-requires
add_bare-add_bare-requires t c =
    let less = right_fits c.in_ok-spine.spine.first.now c.args.expr.now c.in_ok-spine.spine.operations.items c.deref-operation-items.result.now c.loop-operation.operation-index c.operation-item.result c.in_ok-spine.ensures.whole c.deref-operation-items.ensures.value c.loop-operation-test.true c.operation-item.is in
    (omega arith, tt)

pub add_bare-returns : goal.add_bare-returns
add_bare-returns t c =
    bare_done c.in_ok-spine.spine.first.now c.args.expr.now c.in_ok-spine.spine.operations.items c.deref-operation-items.result.now c.loop-operation.operation-index c.args.spots.now c.add_bare_operand.new.spots c.loop-operation.spots
    c.in_ok-spine.ensures.whole c.deref-operation-items.ensures.value c.loop-operation-test.false c.in_ok-add_bare_operand.ensures c.loop-operation.invariant
