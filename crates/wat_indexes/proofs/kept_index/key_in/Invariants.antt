use Rattle.std.proofs.Common.{◌≡◌, ◌++◌, map, drop}
use Rattle.wat_value.specs.Fits.{value_in}
use Rattle.wat_indexes.proofs.kept_index.key_in.Given as goal

abbrev pub invariant-loop-column : goal.invariant-loop-column
invariant-loop-column l = l.key ++ map (value_in l.row) (drop l.column-index l.columns) ≡ map (value_in l.row) l.columns
