use Rattle.std.proofs.Common.{◌≡◌}
use Rattle.std.specs.List.{reduce}
use Rattle.std.specs.Ordering.{ord_min}
use Rattle.wat_value.specs.Order.{value_cmp}
use Rattle.wat_expr.proofs.aggregates.least.Given as goal

abbrev pub invariant-loop-value : goal.invariant-loop-value
invariant-loop-value l = l.least ≡ reduce (ord_min value_cmp) l.yielded
