use Rattle.std.proofs.Common.{◌≡◌, drop}
use Rattle.wat_names.specs.Refusals.{first}
use Rattle.wat_meaning.specs.Meaning.{row_faults}
use Rattle.wat_made.proofs.faults.first_fault.Given as goal

abbrev pub invariant-loop-row : goal.invariant-loop-row
invariant-loop-row l = first (row_faults l.def (drop l.row-index l.rows)) ≡ first (row_faults l.def l.rows)
