use Rattle.std.proofs.Common.{◌≡◌, ◌≤◌, length, drop}
use Rattle.wat_slot.proofs.Reading.{ReadsSoFar}
use Rattle.wat_slot.proofs.row_page.cells.Given as goal

abbrev pub invariant-loop-i : goal.invariant-loop-i
invariant-loop-i l = record {
  count : length l.cells ≡ l._i;
  within : l.at ≤ length l.page;
  read : ReadsSoFar l.page l.cells (drop l.at l.page);
}
