use Rattle.wat_conjuncts.proofs.ConjunctLemmas.{one_falls, sides_fall, sides_step}
use Rattle.wat_conjuncts.proofs.conjuncts.conjuncts_in.Goals as goal

pub loop-expr-smaller-in-Continue-branch-3 : goal.loop-expr-smaller-in-Continue-branch-3
loop-expr-smaller-in-Continue-branch-3 c =
    sides_fall c.loop-expr.rest.items c.pop.new.self.items c.in-Some.expr c.in-Some.ensures.items c.push-in-Some-sides_of_and.new.self.items c.push-in-Some-sides_of_and-2.new.self.items c.in-Some-sides_of_and.left c.in-Some-sides_of_and.right
    c.in_ok-push-in-Some-sides_of_and.ensures.items c.in_ok-push-in-Some-sides_of_and-2.ensures.items c.in-Some-sides_of_and.ensures

pub loop-expr-preserved-in-Continue-branch-3 : goal.loop-expr-preserved-in-Continue-branch-3
loop-expr-preserved-in-Continue-branch-3 c =
    sides_step c.loop-expr.rest.items c.pop.new.self.items c.in-Some.expr c.in-Some.ensures.items c.push-in-Some-sides_of_and.new.self.items c.push-in-Some-sides_of_and-2.new.self.items c.in-Some-sides_of_and.left c.in-Some-sides_of_and.right
    c.in_ok-push-in-Some-sides_of_and.ensures.items c.in_ok-push-in-Some-sides_of_and-2.ensures.items c.in-Some-sides_of_and.ensures c.loop-expr.conjuncts.items c.args.condition.now c.loop-expr.invariant

pub loop-expr-smaller : goal.loop-expr-smaller
loop-expr-smaller c = one_falls c.loop-expr.rest.items c.pop.new.self.items c.in-Some.expr c.in-Some.ensures.items
