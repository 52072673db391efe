use Rattle.std.proofs.Common.{drop}
use Rattle.wat_cycle.proofs.EdgeLemmas.{HasEdges}
use Rattle.wat_cycle.proofs.blockers.edges.Given as goal

abbrev pub invariant-loop-next : goal.invariant-loop-next
invariant-loop-next l = HasEdges l.locks l.requests l.conn l.others l.edges l.at (drop l.next-index l.others)
