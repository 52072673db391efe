use Rattle.std.proofs.Common.{◌≡◌, ◌++◌}
use Rattle.std.specs.Vec.Iter.{into_iter_items}
use Rattle.wat_serial.specs.Changing.{insert_acts}
use Rattle.wat_serial.proofs.changing.insert_acts.Given as goal

abbrev pub invariant-loop-row : goal.invariant-loop-row
invariant-loop-row l = l.acts ++ insert_acts l.table (into_iter_items l.row-iterator) ≡ insert_acts l.table (into_iter_items l.initial.row-iterator)
