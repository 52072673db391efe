use Rattle.std.proofs.Common.{take, [], ◌∷◌}
use Rattle.wat_cycle.specs.Arcs.{MoreArcs}
use Rattle.wat_cycle.proofs.blockers.push_arcs.Given as goal

abbrev pub invariant-loop-node : goal.invariant-loop-node
invariant-loop-node l = MoreArcs l.locks (l.request ∷ []) (take l.node-index l.nodes) l.fn.arcs.items l.arcs.items
