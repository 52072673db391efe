use Rattle.std.proofs.Common.{◌≡◌, ◌++◌, map, drop}
use Rattle.wat_meaning.specs.Meaning.{given_row}
use Rattle.wat_made.proofs.inserting.given_rows.Given as goal

abbrev pub invariant-loop-listed : goal.invariant-loop-listed
invariant-loop-listed l = l.rows.items ++ map (given_row l.def l.names) (drop l.listed-index l.values) ≡ map (given_row l.def l.names) l.values
