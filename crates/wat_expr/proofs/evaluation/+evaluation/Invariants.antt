use Rattle.std.proofs.Common.{◌≡◌, ◌+◌, ◌*◌, take, drop, map, fold}
use Rattle.wat_ast.specs.declared.expression.BinaryOp.TheVariants.{Equal}
use Rattle.wat_expr.specs.Logic.{disjunction}
use Rattle.wat_expr.specs.Operators.{comparison}
use Rattle.wat_expr.specs.Evaluation.{outcome_of, over}
use Rattle.wat_expr.specs.Private.{outcome_so_far}
use Rattle.wat_walk.specs.Lent.{lent}
use Rattle.wat_expr.specs.Private.{over_context}
use Rattle.wat_expr.proofs.EvaluationLemmas.{operation_step}
use Rattle.wat_expr.proofs.evaluation.+evaluation.Given as goal

abbrev pub decreases-evaluate : goal.decreases-evaluate
decreases-evaluate l = 4 * goal.size-evaluate l + 1

abbrev pub decreases-operand : goal.decreases-operand
decreases-operand l = 4 * goal.size-operand l

abbrev pub decreases-among : goal.decreases-among
decreases-among l = 4 * goal.size-among l + 2

abbrev pub decreases-outcomes : goal.decreases-outcomes
decreases-outcomes l = 4 * goal.size-outcomes l + 2

abbrev pub decreases-aggregate : goal.decreases-aggregate
decreases-aggregate l = 4 * goal.size-aggregate l + 3

abbrev pub invariant-evaluate-loop-operation : goal.invariant-evaluate-loop-operation
invariant-evaluate-loop-operation l = outcome_so_far l.left ≡ fold (operation_step (over_context l.context)) (outcome_so_far l.initial.left) (take l.operation-index l.operation-items)

abbrev pub invariant-among-loop-item : goal.invariant-among-loop-item
invariant-among-loop-item l =
    fold (λ found x. disjunction found (comparison Equal l.a x)) l.found (map (λ x. outcome_of x (over_context l.context)) (drop l.item-index l.items))
    ≡ fold (λ found x. disjunction found (comparison Equal l.a x)) l.initial.found (map (λ x. outcome_of x (over_context l.context)) l.items)

abbrev pub invariant-outcomes-loop-rows : goal.invariant-outcomes-loop-rows
invariant-outcomes-loop-rows l = l.outcomes.items ≡ map (λ rows. outcome_of l.arg (over rows)) (lent (take l.rows-index l.group))
