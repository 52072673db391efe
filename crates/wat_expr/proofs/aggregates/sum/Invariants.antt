use Rattle.std.proofs.Common.{◌≡◌, ◌*◌, ◌^◌, take, pos, ◌+ℤ◌, neg_ℤ, ◌≤ℤ◌, fold}
use Rattle.wat_expr.specs.Aggregates.{number}
use Rattle.wat_expr.proofs.aggregates.sum.Given as goal

abbrev pub invariant-loop-value : goal.invariant-loop-value
invariant-loop-value l = record {
  exact : l.total ≡ fold (λ total w. total +ℤ number w) (pos 0) (take l.value-index l.values);
  low : neg_ℤ (pos (2 ^ 63 * l.value-index)) ≤ℤ l.total;
  high : l.total ≤ℤ pos (2 ^ 63 * l.value-index);
}
