-- What the objects hold while a chain of theirs is written.
use Rattle.std.specs.Prelude.{◌≡◌, ℕ, List}
use Rattle.wat_disk.specs.Disk.{Told}
use Rattle.wat_book.specs.Book.{Owners, section}
use Rattle.wat_pages.specs.declared.header.Header.{Header}
use Rattle.wat_pages.specs.Pages.{book_of, next_head}
use Rattle.wat_rows.specs.Pages.{of_rows}
use Rattle.wat_directory.specs.Known as directory
use Rattle.wat_heap.specs.Heaps.{directory_of}
use Rattle.wat_schema.specs.Catalog.{def_at}
use Rattle.wat_schema.specs.Tables.{catalog_of, row_at}
use Rattle.wat_replay.specs.State.{State}
use Rattle.wat_held.specs.Held.{HoldsState}
use Rattle.wat_objects.specs.declared.objects.Objects.{Objects}
use Rattle.wat_objects.specs.declared.chains.Roots.{Roots}
use Rattle.wat_objects.specs.Objects.{pages_of, heap_of, schema_of, catalog_page_of, lists_of}

-- ---- before a checkpoint

-- the header with these roots, and what it says of the log
abbrev pub header_with : Roots → ℕ → ℕ → Header
header_with roots frames place = record { frames = frames; place = place; catalog = roots.catalog; rollback = roots.rollback; next_table = roots.next_table }

-- The pages hold the state by a header with these roots, whatever it says of the log; and the objects have the rest of it.
pub record HoldsRoots (told : Told) (x : Objects) (roots : Roots) (s : State) : Type 0 where
  pub owners : Owners
  pub free : List ℕ
  pub holds : (frames place : ℕ) → HoldsState (book_of told (pages_of x)) owners free (next_head (pages_of x) (header_with roots frames place)) s
  pub catalog : roots.catalog ≡ catalog_page_of x
  pub schema : schema_of x ≡ catalog_of s.tables
  pub rows : directory.Holds (directory_of (heap_of x)) (section (book_of told (pages_of x)) owners of_rows) (def_at (catalog_of s.tables)) (row_at s.tables)
  pub lists : lists_of x ≡ s.lists
