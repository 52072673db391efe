use Rattle.std.proofs.Common.{◌++◌, sym, ap, ◌∙◌, append-nil}
use Rattle.wat_ast.specs.declared.expression.Expr.TheVariants as e
use Rattle.wat_conjuncts.specs.Conjuncts.{conjuncts_in}
use Rattle.wat_conjuncts.proofs.ConjunctLemmas.{compared_here, not_compared, nothing_added, conjuncts-no_range}
use Rattle.wat_conjuncts.proofs.conjuncts.add_comparisons.Goals as goal

pub returns-in_ok-push-in-Binary : goal.returns-in_ok-push-in-Binary
returns-in_ok-push-in-Binary c =
    c.in_ok-push-in-Binary.ensures.items
    ∙ ap (λ z. c.args.conjuncts.now.items ++ z)
    (compared_here c.in-Binary.op c.in-Binary.left c.in-Binary.right c.get-left.result.now c.get-right.result.now c.args.expr.now c.get-left.ensures c.get-right.ensures c.in-Binary.is c.requires (sym c.if-is_bounding.ensures))

pub returns-else-is_bounding : goal.returns-else-is_bounding
returns-else-is_bounding c =
    sym (ap (λ z. c.args.conjuncts.now.items ++ z) (not_compared c.in-Binary.op c.in-Binary.left c.in-Binary.right c.args.expr.now c.in-Binary.is c.requires (sym c.if-is_bounding.ensures)) ∙ append-nil c.args.conjuncts.now.items)

pub returns-then-negated : goal.returns-then-negated
returns-then-negated c =
    nothing_added c.args.conjuncts.now.items c.args.expr.now
    (ap conjuncts_in (c.in-Between.is ∙ ap (e.Between c.in-Between.arg c.in-Between.low c.in-Between.high) c.if-negated.true) ∙ conjuncts-no_range c.in-Between.arg c.in-Between.low c.in-Between.high)
