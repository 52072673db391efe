use Rattle.std.proofs.Common.{◌≡◌, ◌++◌, drop}
use Rattle.wat_made.specs.Setting.{rows_after, sets_fail}
use Rattle.wat_made.proofs.updating.rows_after.Given as goal

abbrev pub invariant-loop-rows : goal.invariant-loop-rows
invariant-loop-rows l = record {
  no_error : sets_fail l.sets (drop l.rows-index l.met) ≡ sets_fail l.sets l.met;
  after : l.after.items ++ rows_after l.def l.sets (drop l.rows-index l.met) ≡ rows_after l.def l.sets l.met;
}
