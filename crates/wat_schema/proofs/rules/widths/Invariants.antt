use Rattle.std.proofs.Common.{◌≡◌, ◌≤◌, ◌*◌, take}
use Rattle.wat_value.specs.Widths.{widths}
use Rattle.wat_schema.proofs.rules.widths.Given as goal

abbrev pub invariant-loop-column : goal.invariant-loop-column
invariant-loop-column l = record { sum : l.total ≡ widths (take l.column-index l.columns); bound : l.total ≤ l.column-index * 65538 }
