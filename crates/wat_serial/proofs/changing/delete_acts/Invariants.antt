use Rattle.std.proofs.Common.{◌≡◌, ◌++◌, drop}
use Rattle.wat_serial.specs.Changing.{delete_acts}
use Rattle.wat_serial.proofs.changing.delete_acts.Given as goal

abbrev pub invariant-loop-rows : goal.invariant-loop-rows
invariant-loop-rows l = l.acts ++ delete_acts l.table (drop l.rows-index l.met) ≡ delete_acts l.table l.met
