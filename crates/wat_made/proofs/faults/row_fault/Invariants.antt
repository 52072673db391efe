use Rattle.std.proofs.Common.{◌≡◌}
use Rattle.std.specs.Iterator.Adapters.{zip_first, zip_second}
use Rattle.std.specs.List.{flat_map, zip}
use Rattle.std.specs.Slice.Iter.{iter_rest}
use Rattle.wat_names.specs.Refusals.{first}
use Rattle.wat_meaning.specs.Meaning.{column_fault}
use Rattle.wat_made.proofs.faults.row_fault.Given as goal

abbrev pub invariant-loop-column : goal.invariant-loop-column
invariant-loop-column l = first (flat_map column_fault (zip (iter_rest (zip_first l.column-iterator)) (iter_rest (zip_second l.column-iterator)))) ≡ first (flat_map column_fault (zip l.columns l.row))
