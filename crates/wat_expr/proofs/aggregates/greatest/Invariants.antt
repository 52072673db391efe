use Rattle.std.proofs.Common.{◌≡◌}
use Rattle.std.specs.List.{reduce}
use Rattle.std.specs.Ordering.{ord_max}
use Rattle.wat_value.specs.Order.{value_cmp}
use Rattle.wat_expr.proofs.aggregates.greatest.Given as goal

abbrev pub invariant-loop-value : goal.invariant-loop-value
invariant-loop-value l = l.greatest ≡ reduce (ord_max value_cmp) l.yielded
