use Rattle.std.proofs.Common.{◌≡◌, ◌++◌, drop}
use Rattle.wat_value.specs.Fits.{values_in}
use Rattle.wat_group.proofs.keyed.push_key.Given as goal

abbrev pub invariant-loop-column : goal.invariant-loop-column
invariant-loop-column l = l.keys ++ values_in l.row (drop l.column-index l.column-items) ≡ l.initial.keys ++ values_in l.row l.column-items
