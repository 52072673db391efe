use Rattle.std.proofs.Common.{◌≡◌, ◌+◌, ◌++◌, length, take}
use Rattle.wat_slot.specs.Cells.{cells_bytes, cells_front}
use Rattle.wat_slot.proofs.row_page.write_cells.Given as goal

abbrev pub invariant-loop-cell : goal.invariant-loop-cell
invariant-loop-cell l = record {
  place : l.at ≡ 16 + length (cells_bytes (take l.cell-index l.cells));
  whole : length l.page ≡ 4096;
  written : take l.at l.page ≡ cells_front (length l.cells) ++ cells_bytes (take l.cell-index l.cells);
}
