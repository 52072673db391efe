use Rattle.std.proofs.Common.{◌≡◌, ◌++◌, map, drop}
use Rattle.wat_expr.specs.Evaluation.{outcome_of}
use Rattle.wat_group.specs.Private.{over_of}
use Rattle.wat_group.proofs.making.outcomes.Given as goal

abbrev pub invariant-loop-expr : goal.invariant-loop-expr
invariant-loop-expr l = l.outcomes.items ++ map (λ e. outcome_of e (over_of l.at)) (drop l.expr-index l.exprs) ≡ map (λ e. outcome_of e (over_of l.at)) l.exprs
