use Rattle.std.proofs.Common.{arith, ◌≡◌, ap, ◌∙◌}
use Rattle.wat_ast.specs.declared.expression.Expr.TheOpen.{Expr-F}
use Rattle.wat_walk.specs.declared.spine.Operation.{Operation}
use Rattle.wat_types.specs.declared.typing.Typing.{Typing}
use Rattle.wat_types.specs.Types.{typing_of, typing_from, operator_type}
use Rattle.wat_scope.proofs.Chains.{head_fits, right_fits, fold_next}
use Rattle.wat_typing.specs.Rules.{types_of}
use Rattle.wat_typing.proofs.ChainLemmas.{typing_begun}
use Rattle.wat_typing.proofs.typing.+typings.Goals as goal

pub typing_of-operand_typing-requires : goal.typing_of-operand_typing-requires
typing_of-operand_typing-requires t c =
    let fits = head_fits c.in_ok-spine.spine.first.now c.args.expr.now c.in_ok-spine.spine.operations.items c.in_ok-spine.ensures.whole in
    (omega arith, c.in_ok-spine.ensures.first)

pub typing_of-typing_of-requires : goal.typing_of-typing_of-requires
typing_of-typing_of-requires t c =
    let less = right_fits c.in_ok-spine.spine.first.now c.args.expr.now c.in_ok-spine.spine.operations.items c.deref-operation-items.result.now c.loop-operation.operation-index c.operation-item.result c.in_ok-spine.ensures.whole c.deref-operation-items.ensures.value c.loop-operation-test.true c.operation-item.is in
    (omega arith, tt)

pub typing_of-loop-operation-init : goal.typing_of-loop-operation-init
typing_of-loop-operation-init t c =
    typing_begun (types_of c.args.schema.now c.args.scope.now) c.in_ok-spine.spine.first.now c.args.expr.now c.in_ok-spine.spine.operations.items c.deref-operation-items.result.now c.in_ok-left.left c.in_ok-spine.ensures.whole c.deref-operation-items.ensures.value c.in_ok-left.ensures

pub typing_of-loop-operation-preserved : goal.typing_of-loop-operation-preserved
typing_of-loop-operation-preserved t c =
    let types = types_of c.args.schema.now c.args.scope.now in
    let o = c.operation-item.result in
    let step = λ (left : Typing) (o : Operation). typing_from (operator_type o.op) (Expr-F.Binary o.op left (typing_of types o.right.now)) in
    let made : c.binary-left.result ≡ step c.loop-operation.left o =
    c.binary-left.ensures ∙ ap (λ (right : Typing). typing_from (operator_type o.op) (Expr-F.Binary o.op c.loop-operation.left right)) c.in_ok-right.ensures in
    fold_next step c.loop-operation.left c.binary-left.result (typing_of types c.args.expr.now) c.deref-operation-items.result.now c.loop-operation.operation-index o c.loop-operation-test.true c.operation-item.is made c.loop-operation.invariant
