use Rattle.std.proofs.Common.{arith}
use Rattle.wat_scope.proofs.Chains.{head_fits, right_fits}
use Rattle.wat_names.proofs.PlaceLemmas.{placed_begun}
use Rattle.wat_names.proofs.places.+placing.Goals as goal

pub placed-placed_operand-requires : goal.placed-placed_operand-requires
placed-placed_operand-requires t c =
    let fits = head_fits c.in_ok-spine.spine.first.now c.args.expr.now c.in_ok-spine.spine.operations.items c.in_ok-spine.ensures.whole in
    (omega arith, c.in_ok-spine.ensures.first)

pub placed-placed_box-requires : goal.placed-placed_box-requires
placed-placed_box-requires t c =
    let less = right_fits c.in_ok-spine.spine.first.now c.args.expr.now c.in_ok-spine.spine.operations.items c.deref-operation-items.result.now c.loop-operation.operation-index c.operation-item.result c.in_ok-spine.ensures.whole c.deref-operation-items.ensures.value c.loop-operation-test.true c.operation-item.is in
    (omega arith, tt)

pub placed-loop-operation-init : goal.placed-loop-operation-init
placed-loop-operation-init t c =
    placed_begun c.args.schema.now c.args.scope.now c.in_ok-spine.spine.first.now c.args.expr.now c.in_ok-spine.spine.operations.items c.deref-operation-items.result.now c.in_ok-tree.tree c.in_ok-spine.ensures.whole c.deref-operation-items.ensures.value c.in_ok-tree.ensures
