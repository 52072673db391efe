use Rattle.std.proofs.Common.{◌≡◌, take, map}
use Rattle.wat_cycle.specs.declared.request.Request.{Request}
use Rattle.wat_cycle.proofs.blockers.waiting.Given as goal

abbrev pub invariant-loop-request : goal.invariant-loop-request
invariant-loop-request l = l.nodes ≡ map (λ (r : Request). r.conn) (take l.request-index l.requests)
