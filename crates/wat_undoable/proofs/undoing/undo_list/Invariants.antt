use Rattle.std.proofs.Common.{◌≡◌, ◌≤◌, ℕ, List, drop, length}
use Rattle.wat_faults.specs.Faults.{HasCause}
use Rattle.wat_book.specs.Book.{Owners}
use Rattle.wat_pages.specs.Pages.{IsPagesOf, book_of}
use Rattle.wat_schema.specs.Catalog.{def_at}
use Rattle.wat_schema.specs.Tables.{Tables}
use Rattle.wat_rows.specs.Rows.{RowMap}
use Rattle.wat_heap.specs.Heaps.{IsHeld, directory_of}
use Rattle.wat_undo.specs.Kept.{lists_of}
use Rattle.wat_roots.specs.Went.{Went, Stays}
use Rattle.wat_undoable.specs.Undoing.{Tried, UndidAll}
use Rattle.wat_undoable.proofs.undoing.undo_list.Given as goal

abbrev pub invariant-loop-left : goal.invariant-loop-left
invariant-loop-left g l = record {
  few : l.left ≤ length (lists_of l.lists l.conn);
  known : g.D.Disk.tells_content → IsPagesOf (g.D.Disk.told l.disk) l.pages;
  went : g.D.Disk.tells_content → Went (g.D.Disk.told l.fn.disk) (g.D.Disk.told l.disk) l.fn.pages l.pages;
  stays : g.D.Disk.tells_content → Stays (g.D.Disk.told l.fn.disk) (g.D.Disk.told l.disk) l.fn.pages l.pages;
  undid : g.D.Disk.tells_content → (owners : Owners) (free : List ℕ) (rows : RowMap) (v : Tables) → IsHeld (directory_of l.heap) (book_of (g.D.Disk.told l.fn.disk) l.fn.pages) owners free (def_at l.schema) rows
      → Tried l.schema rows (lists_of l.lists) v l.fn.trial → UndidAll l.schema rows (lists_of l.lists) l.conn (drop l.left (lists_of l.lists l.conn)) v l.fn.trial l.trial;
  cause : HasCause (g.D.Disk.told l.fn.disk).faults (g.D.Disk.told l.disk).faults ⊥;
}

abbrev pub decreases-loop-left : goal.decreases-loop-left
decreases-loop-left g l = l.left
