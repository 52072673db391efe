use Rattle.std.proofs.Common.{ℕ, take, sym, subst, List, [], ◌∷◌, take_all, slice_index_or}
use Rattle.std.proofs.lemmas.List.{take_more}
use Rattle.wat_cycle.specs.Arcs.{MoreArcs}
use Rattle.wat_cycle.proofs.ArcLemmas.{no_nodes, one_node_more}
use Rattle.wat_cycle.proofs.blockers.push_arcs.Goals as goal

pub loop-node-init : goal.loop-node-init
loop-node-init c = no_nodes c.args.locks.now (c.args.request.now ∷ []) c.args.arcs.now.items

pub loop-node-preserved : goal.loop-node-preserved
loop-node-preserved c =
    let nodes = c.args.nodes.now in
    let i = c.loop-node.node-index in
    subst (λ (ns : List ℕ). MoreArcs c.args.locks.now (c.args.request.now ∷ []) ns c.args.arcs.now.items c.push_arc.new.arcs.items) (sym (take_more nodes i 0 c.loop-node-test.true))
    (one_node_more c.args.locks.now (c.args.request.now ∷ []) (take i nodes) (slice_index_or nodes i 0) c.args.arcs.now.items c.loop-node.arcs.items c.push_arc.new.arcs.items c.loop-node.invariant c.in_ok-push_arc.ensures)

pub returns : goal.returns
returns c =
    subst (λ (ns : List ℕ). MoreArcs c.args.locks.now (c.args.request.now ∷ []) ns c.args.arcs.now.items c.loop-node.arcs.items) (take_all c.loop-node.node-index c.args.nodes.now c.loop-node-test.false) c.loop-node.invariant
