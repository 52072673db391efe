use Rattle.std.proofs.Common.{◌≡◌, take, length}
use Rattle.wat_slot.specs.Cells.{cells_bytes}
use Rattle.wat_cells.proofs.edit.used_by.Given as goal

abbrev pub invariant-loop-cell : goal.invariant-loop-cell
invariant-loop-cell l = l.used ≡ length (cells_bytes (take l.cell-index l.cells))
