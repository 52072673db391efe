use Rattle.std.proofs.Common.{◌≡◌, drop}
use Rattle.wat_group.specs.Query.{has_error}
use Rattle.wat_meaning.specs.Meaning.{sole_row}
use Rattle.wat_made.specs.Setting.{row_after, set_outcomes}
use Rattle.wat_made.proofs.updating.row_after.Given as goal

abbrev pub invariant-loop-set : goal.invariant-loop-set
invariant-loop-set l = record {
  no_error : has_error (set_outcomes (drop l.set-index l.sets) l.rows) ≡ has_error (set_outcomes l.sets l.rows);
  after : row_after l.def (drop l.set-index l.sets) l.rows l.after ≡ row_after l.def l.sets l.rows (sole_row l.rows);
}
