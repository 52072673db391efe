use Rattle.std.proofs.Common.{◌≡◌, ◌++◌}
use Rattle.std.specs.Vec.Iter.{into_iter_items}
use Rattle.wat_group.specs.Query.{has_error, values_of}
use Rattle.wat_group.proofs.making.row_of.Given as goal

abbrev pub invariant-loop-outcome : goal.invariant-loop-outcome
invariant-loop-outcome l = record {
  no_error : has_error (into_iter_items l.outcome-iterator) ≡ has_error l.fn.shown.items;
  values : l.row ++ values_of (into_iter_items l.outcome-iterator) ≡ values_of l.fn.shown.items;
}
