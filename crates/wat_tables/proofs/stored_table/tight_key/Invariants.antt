use Rattle.std.proofs.Common.{◌≡◌, take}
use Rattle.wat_value.specs.Fits.{values_in}
use Rattle.wat_tables.proofs.stored_table.tight_key.Given as goal

abbrev pub invariant-loop-column : goal.invariant-loop-column
invariant-loop-column l = l.values.items ≡ values_in l.row (take l.column-index l.columns)
