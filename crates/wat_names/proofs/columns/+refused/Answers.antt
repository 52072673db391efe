use Rattle.std.proofs.Common.{arith, ◌≡◌, ◌∙◌, sym, Some}
use Rattle.std.proofs.lemmas.Grind.{common_steps}
use Rattle.wat_scope.proofs.Chains.{head_fits, right_fits}
use Rattle.wat_names.proofs.ColumnLemmas.{first_of_chain}
use Rattle.wat_names.proofs.Firsts.{first_refused}
use Rattle.wat_names.specs.Refusals.{first}
use Rattle.wat_names.specs.Columns.{in_expression}
use Rattle.wat_walk.specs.declared.spine.Operation.{Operation}
use Rattle.wat_names.proofs.columns.+refused.Goals as goal

pub in_expression-in_operand-requires : goal.in_expression-in_operand-requires
in_expression-in_operand-requires t c =
    let fits = head_fits c.in_ok-spine.spine.first.now c.args.expr.now c.in_ok-spine.spine.operations.items c.in_ok-spine.ensures.whole in
    (omega arith, c.in_ok-spine.ensures.first)

pub in_expression-returns-in-Some : goal.in_expression-returns-in-Some
in_expression-returns-in-Some t c =
    let whole = first_of_chain c.args.schema.now c.args.scope.now c.in_ok-spine.spine.first.now c.args.expr.now c.in_ok-spine.spine.operations.items c.in_ok-spine.ensures.whole in
    grind (arith, common_steps, c.in_ok-refusal.ensures)

pub in_expression-loop-operation-init : goal.in_expression-loop-operation-init
in_expression-loop-operation-init t c =
    let whole = first_of_chain c.args.schema.now c.args.scope.now c.in_ok-spine.spine.first.now c.args.expr.now c.in_ok-spine.spine.operations.items c.in_ok-spine.ensures.whole in
    grind (arith, common_steps, c.in_ok-refusal.ensures)

pub in_expression-in_expression-requires : goal.in_expression-in_expression-requires
in_expression-in_expression-requires t c =
    let less = right_fits c.in_ok-spine.spine.first.now c.args.expr.now c.in_ok-spine.spine.operations.items c.deref-operation-items.result.now c.loop-operation.operation-index c.operation-item.result c.in_ok-spine.ensures.whole c.deref-operation-items.ensures.value c.loop-operation-test.true c.operation-item.is in
    (omega arith, tt)

pub in_expression-returns-in-Some-2 : goal.in_expression-returns-in-Some-2
in_expression-returns-in-Some-2 t c =
    let refused : Some c.in-Some-2.refusal ≡ first (in_expression c.args.schema.now c.args.scope.now c.operation-item.result.right.now) = sym c.in-Some-2.is ∙ c.in_ok-refusal-2.ensures in
    sym (first_refused (λ (o : Operation). in_expression c.args.schema.now c.args.scope.now o.right.now) c.deref-operation-items.result.now c.loop-operation.operation-index c.operation-item.result c.in-Some-2.refusal c.loop-operation-test.true c.operation-item.is refused)
    ∙ c.loop-operation.invariant
