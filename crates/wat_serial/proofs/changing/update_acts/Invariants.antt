use Rattle.std.proofs.Common.{◌≡◌, ◌++◌}
use Rattle.std.specs.Iterator.Adapters.{zip_first, zip_second}
use Rattle.std.specs.Slice.Iter.{iter_rest}
use Rattle.wat_serial.specs.Changing.{update_acts}
use Rattle.wat_serial.proofs.changing.update_acts.Given as goal

abbrev pub invariant-loop-rows : goal.invariant-loop-rows
invariant-loop-rows l = l.acts ++ update_acts l.table (iter_rest (zip_first l.rows-iterator)) (iter_rest (zip_second l.rows-iterator)) ≡ update_acts l.table l.met l.fn.after
