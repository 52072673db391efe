use Rattle.std.proofs.Common.{◌≡◌, ◌++◌, map, drop}
use Rattle.wat_meaning.specs.Meaning.{given_columns, given_row, given_value}
use Rattle.wat_made.proofs.inserting.given_row.Given as goal

abbrev pub invariant-loop-column : goal.invariant-loop-column
invariant-loop-column l = l.row ++ map (given_value (given_columns l.def l.names) l.values) (drop l.column-index l.column-items) ≡ map (given_value (given_columns l.def l.names) l.values) l.column-items
