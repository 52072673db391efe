use Rattle.std.proofs.Common.{◌≡◌, ◌+◌, ℕ, take, length}
use Rattle.std.specs.Prelude.{None, IsSome}
use Rattle.wat_slot.specs.Cells.{cells_bytes}
use Rattle.wat_book.specs.Book.{Section}
use Rattle.wat_rows.specs.Rows.{RowMap}
use Rattle.wat_directory.specs.Known.{Holds, page_at, row_pages}
use Rattle.wat_heap.specs.Taking.{def_in}
use Rattle.wat_heap.proofs.Taken.{Sofar}
use Rattle.wat_heap.proofs.taking.take_rows.Given as goal

abbrev pub invariant-loop-cell : goal.invariant-loop-cell
invariant-loop-cell l = record {
  used_is : l.used ≡ length (cells_bytes (take l.cell-index l.cells));
  sofar : (pages : Section) (rows : RowMap) → Holds l.fn.directory pages (def_in l.defs) rows → pages l.page ≡ None → Sofar (def_in l.defs) l.page l.used (take l.cell-index l.cells) pages rows l.directory;
  count : page_at l.fn.directory l.page ≡ None → row_pages l.directory ≡ row_pages l.fn.directory + 1;
  known : IsSome (page_at l.directory l.page);
}
