use Rattle.std.proofs.Common.{◌≡◌, ◌++◌, map}
use Rattle.std.specs.Iterator.Adapters.{zip_first, zip_second}
use Rattle.std.specs.List.{zip}
use Rattle.std.specs.Slice.Iter.{iter_rest}
use Rattle.wat_value.specs.declared.change.Change.TheVariants.{Update}
use Rattle.wat_expr.specs.Evaluation.{Combination}
use Rattle.wat_group.specs.Query.{Row}
use Rattle.wat_meaning.specs.Meaning.{sole_row}
use Rattle.wat_changing.proofs.updating.updates.Given as goal

abbrev pub invariant-loop-rows : goal.invariant-loop-rows
invariant-loop-rows l = l.changes.items ++ map (λ (x : Combination × Row). Update l.table (sole_row x.0) x.1) (zip (iter_rest (zip_first l.rows-iterator)) (iter_rest (zip_second l.rows-iterator))) ≡ map (λ (x : Combination × Row). Update l.table (sole_row x.0) x.1) (zip l.before l.fn.after)
