use Rattle.std.proofs.Common.{drop}
use Rattle.wat_cycle.proofs.EdgeLemmas.{StillBlocks}
use Rattle.wat_cycle.proofs.blockers.edge.Given as goal

abbrev pub invariant-loop-request : goal.invariant-loop-request
invariant-loop-request l = StillBlocks l.locks l.requests (drop l.request-index l.requests) l.from l.to
