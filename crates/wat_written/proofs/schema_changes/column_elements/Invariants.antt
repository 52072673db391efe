use Rattle.std.proofs.Common.{◌≡◌, map, take}
use Rattle.wat_written.specs.Written.{column_element}
use Rattle.wat_written.proofs.schema_changes.column_elements.Given as goal

abbrev pub invariant-loop-column : goal.invariant-loop-column
invariant-loop-column l = l.elements ≡ map column_element (take l.column-index l.fn.columns)
