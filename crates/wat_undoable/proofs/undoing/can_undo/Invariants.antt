use Rattle.std.proofs.Common.{◌≡◌, ◌-◌, ◌≤◌, ℕ, List}
use Rattle.wat_faults.specs.Faults.{HasCause}
use Rattle.wat_book.specs.Book.{Owners}
use Rattle.wat_pages.specs.Pages.{IsPagesOf, book_of}
use Rattle.wat_schema.specs.Catalog.{def_at}
use Rattle.wat_schema.specs.Tables.{Tables, IsTables, catalog_of, row_at}
use Rattle.wat_rows.specs.Rows.{Row, RowMap}
use Rattle.wat_heap.specs.Heaps.{IsHeld, directory_of}
use Rattle.wat_undo.specs.Kept.{lists_of}
use Rattle.wat_roots.specs.Went.{Went, Stays}
use Rattle.wat_undoable.proofs.Undone.{Sofar}
use Rattle.wat_undoable.proofs.undoing.can_undo.Given as goal

abbrev pub invariant-loop-conn : goal.invariant-loop-conn
invariant-loop-conn g l = record {
  small : l.from ≤ 65536;
  known : g.D.Disk.tells_content → IsPagesOf (g.D.Disk.told l.disk) l.pages;
  went : g.D.Disk.tells_content → Went (g.D.Disk.told l.fn.disk) (g.D.Disk.told l.disk) l.fn.pages l.pages;
  stays : g.D.Disk.tells_content → Stays (g.D.Disk.told l.fn.disk) (g.D.Disk.told l.disk) l.fn.pages l.pages;
  sofar : g.D.Disk.tells_content → (owners : Owners) (free : List ℕ) (rows : RowMap) (t : Tables) → IsHeld (directory_of l.heap) (book_of (g.D.Disk.told l.fn.disk) l.fn.pages) owners free (def_at l.schema) rows
      → IsTables t → catalog_of t ≡ l.schema → ((table : ℕ) (key : Row) → rows table key ≡ row_at t table key) → Sofar l.schema rows (lists_of l.lists) t l.from l.trial;
  cause : HasCause (g.D.Disk.told l.fn.disk).faults (g.D.Disk.told l.disk).faults ⊥;
}

abbrev pub decreases-loop-conn : goal.decreases-loop-conn
decreases-loop-conn g l = 65536 - l.from
