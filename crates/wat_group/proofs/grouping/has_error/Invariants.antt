use Rattle.std.proofs.Common.{◌≡◌, map, drop}
use Rattle.wat_walk.specs.Lent.{lent}
use Rattle.wat_expr.specs.Evaluation.{outcome_of}
use Rattle.wat_group.specs.Query.{has_error}
use Rattle.wat_group.specs.Private.{over_of}
use Rattle.wat_group.proofs.grouping.has_error.Given as goal

abbrev pub invariant-loop-expr : goal.invariant-loop-expr
invariant-loop-expr l =
    has_error (map (λ e. outcome_of e (over_of l.at)) (lent (drop l.expr-index l.exprs))) ≡ has_error (map (λ e. outcome_of e (over_of l.at)) (lent l.exprs))
