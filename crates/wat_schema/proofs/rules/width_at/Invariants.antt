use Rattle.std.proofs.Common.{◌≡◌, ◌≤◌, ◌*◌, take}
use Rattle.wat_value.specs.Widths.{width_at}
use Rattle.wat_schema.proofs.rules.width_at.Given as goal

abbrev pub invariant-loop-i : goal.invariant-loop-i
invariant-loop-i l = record { sum : l.total ≡ width_at l.columns (take l.i-index l.numbers); bound : l.total ≤ l.i-index * 65538 }
