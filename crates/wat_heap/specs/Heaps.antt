-- The rows that a heap's pages hold.
use Rattle.std.specs.Prelude.{◌≡◌, ℕ, ◌+◌, ◌<◌, ◌==◌, List, [], Option, Some, None, if◌then◌else◌}
use Rattle.wat_book.specs.Book.{Book, Owners, Section, section, IsOwned}
use Rattle.wat_rows.specs.Rows.{RowMap, Defs, Row}
use Rattle.wat_rows.specs.Pages.{of_rows}
use Rattle.wat_directory.specs.declared.directory.Directory.{Directory}
use Rattle.wat_directory.specs.Known.{Holds}
use Rattle.wat_heap.specs.declared.heap.Heap.{Heap}

abbrev pub directory_of : Heap → Directory
directory_of heap = heap.directory

-- The pages have their owners, those of the rows hold these rows, and the directory knows where.
pub record IsHeld (d : Directory) (book : Book) (owners : Owners) (free : List ℕ) (defs : Defs) (rows : RowMap) : Type 0 where
  pub owned : IsOwned book owners free
  pub holds : Holds d (section book owners of_rows) defs rows
