use Rattle.std.proofs.Common.{ℕ, List, [], sym, ◌∙◌, subst}
use Rattle.wat_cycle.specs.declared.walk.Arc.{Arc}
use Rattle.wat_cycle.specs.Arcs.{MoreArcs}
use Rattle.wat_cycle.proofs.blockers.others.Goals as goal

pub others_among-requires-clause-arcs : goal.others_among-requires-clause-arcs
others_among-requires-clause-arcs c =
    subst (λ (nodes : List ℕ). MoreArcs c.args.locks.now c.args.requests.now nodes [] c.as_slice-3.result.now) (c.as_slice.ensures ∙ sym c.as_slice-2.ensures)
    (subst (λ (found : List Arc). MoreArcs c.args.locks.now c.args.requests.now c.as_slice.result.now [] found) (sym c.as_slice-3.ensures.value) c.in_ok-arcs.ensures)
