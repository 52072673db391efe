use Rattle.std.proofs.Common.{arith}
use Rattle.wat_scope.proofs.Chains.{chain_begun, head_fits, right_fits}
use Rattle.wat_conjuncts.specs.Limits.{reads_only}
use Rattle.wat_conjuncts.proofs.ReadingLemmas.{both, reads-Binary}
use Rattle.wat_conjuncts.proofs.reading.+reading.Goals as goal

pub reads_only-operand_reads_only-requires : goal.reads_only-operand_reads_only-requires
reads_only-operand_reads_only-requires t c =
    let fits = head_fits c.in_ok-spine.spine.first.now c.args.expr.now c.in_ok-spine.spine.operations.items c.in_ok-spine.ensures.whole in
    (omega arith, c.in_ok-spine.ensures.first)

pub reads_only-loop-operation-init : goal.reads_only-loop-operation-init
reads_only-loop-operation-init t c =
    let sources = c.args.sources.now in
    chain_begun (reads_only sources) both (reads-Binary sources) c.in_ok-spine.spine.first.now c.args.expr.now c.in_ok-spine.spine.operations.items c.deref-operation-items.result.now c.in_ok-all.all c.in_ok-spine.ensures.whole c.deref-operation-items.ensures.value c.in_ok-all.ensures

pub reads_only-reads_only-requires : goal.reads_only-reads_only-requires
reads_only-reads_only-requires t c =
    let less = right_fits c.in_ok-spine.spine.first.now c.args.expr.now c.in_ok-spine.spine.operations.items c.deref-operation-items.result.now c.loop-operation.operation-index c.operation-item.result c.in_ok-spine.ensures.whole c.deref-operation-items.ensures.value c.loop-operation-test.true c.operation-item.is in
    (omega arith, tt)
