use Rattle.std.proofs.Common.{◌≡◌}
use Rattle.std.specs.List.{filter_map, range_with_len}
use Rattle.wat_core.specs.Parts.{connection_of, request_in}
use Rattle.wat_core.proofs.waiting.requests.Given as goal

abbrev pub invariant-loop-i : goal.invariant-loop-i
invariant-loop-i l = l.found ≡ filter_map (λ c. request_in c (connection_of l.connections c)) (range_with_len 1 l.i)
