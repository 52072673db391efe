use Rattle.std.proofs.Common.{◌≡◌}
use Rattle.std.specs.List.{filter_map}
use Rattle.wat_expr.specs.Aggregates.{known_value}
use Rattle.wat_expr.proofs.aggregates.known_values.Given as goal

abbrev pub invariant-loop-outcome : goal.invariant-loop-outcome
invariant-loop-outcome l = l.values.items ≡ filter_map known_value l.yielded
