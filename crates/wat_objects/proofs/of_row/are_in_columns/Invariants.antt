use Rattle.std.proofs.Common.{◌≡◌, take}
use Rattle.wat_value.specs.Fits.{values_in}
use Rattle.wat_objects.proofs.of_row.are_in_columns.Given as goal

abbrev pub invariant-loop-i : goal.invariant-loop-i
invariant-loop-i l = take l.i l.values ≡ take l.i (values_in l.row l.columns)
