use Rattle.std.proofs.Common.{sym, subst, List}
use Rattle.wat_cycle.specs.declared.walk.Arc.{Arc}
use Rattle.wat_cycle.specs.Arcs.{MoreArcs}
use Rattle.wat_cycle.proofs.ArcLemmas.{blocked_arc, free_arc}
use Rattle.std.proofs.Common.{◌∷◌, [], ◌≡◌, true}
use Rattle.wat_cycle.proofs.blockers.push_arc.Goals as goal

pub returns-then-not-blocking : goal.returns-then-not-blocking
returns-then-not-blocking c = free_arc c.args.locks.now c.args.request.now c.args.node c.args.arcs.now.items (λ k. let yes : c.in_ok-blocking.blocking ≡ true = c.in_ok-blocking.ensures.1 k in absurd (cc))

pub returns : goal.returns
returns c =
    subst (λ (made : List Arc). MoreArcs c.args.locks.now (c.args.request.now ∷ []) (c.args.node ∷ []) c.args.arcs.now.items made) (sym c.in_ok-push.ensures.items)
    (blocked_arc c.args.locks.now c.args.request.now c.args.node c.args.arcs.now.items (c.in_ok-blocking.ensures.0 c.if-not-blocking.false))
