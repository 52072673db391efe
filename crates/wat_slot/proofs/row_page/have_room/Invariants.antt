use Rattle.std.proofs.Common.{◌≡◌, ◌+◌, length, take}
use Rattle.wat_slot.specs.Cells.{cells_bytes}
use Rattle.wat_slot.proofs.row_page.have_room.Given as goal

abbrev pub invariant-loop-cell : goal.invariant-loop-cell
invariant-loop-cell l = l.left + length (cells_bytes (take l.cell-index l.cells)) ≡ 4080
