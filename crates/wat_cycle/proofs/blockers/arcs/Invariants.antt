use Rattle.std.proofs.Common.{take, []}
use Rattle.wat_cycle.specs.Arcs.{MoreArcs}
use Rattle.wat_cycle.proofs.blockers.arcs.Given as goal

abbrev pub invariant-loop-request : goal.invariant-loop-request
invariant-loop-request l = MoreArcs l.locks (take l.request-index l.requests) l.nodes [] l.arcs.items
