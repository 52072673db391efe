-- What the objects hold within a change of the schema.
use Rattle.std.specs.Prelude.{ℕ, ◌==◌, ◌&&◌, List, None, if◌then◌else◌}
use Rattle.std.specs.List.{list_any}
use Rattle.wat_book.specs.Book.{Book, Owners, section, IsOwned}
use Rattle.wat_pages.specs.Pages.{header_of}
use Rattle.wat_rows.specs.Rows.{Row, Defs, RowMap}
use Rattle.wat_rows.specs.Pages.{of_rows}
use Rattle.wat_directory.specs.Known as directory
use Rattle.wat_heap.specs.Heaps.{directory_of}
use Rattle.wat_value.specs.declared.change.SchemaChange.{SchemaChange}
use Rattle.wat_value.specs.declared.change.SchemaChange.TheVariants.{CreateTable, DropTable, CreateIndex}
use Rattle.wat_value.specs.Order.{key_eq}
use Rattle.wat_schema.specs.Catalog.{Catalog}
use Rattle.wat_held.specs.Held.{in_catalog, in_rollback, AreKnown}
use Rattle.wat_objects.specs.declared.objects.Objects.{Objects}
use Rattle.wat_objects.specs.Objects.{pages_of, heap_of, catalog_page_of, HoldsSchemaChain, HoldsChain}

-- The rows are these, of tables with these definitions, and this schema stands on its chain, each on pages of its own, with the chain of the changes to roll back. The schema in memory may be
-- another.
pub record HoldsParts (book : Book) (x : Objects) (schema : Catalog) (defs : Defs) (rows : RowMap) : Type 0 where
  pub owners : Owners
  pub free : List ℕ
  pub owned : IsOwned book owners free
  pub are_known : AreKnown book.count owners
  pub catalog : HoldsSchemaChain (section book owners in_catalog) (catalog_page_of x) schema
  pub rollback : HoldsChain (section book owners in_rollback) (header_of (pages_of x)).rollback
  pub stand : directory.Holds (directory_of (heap_of x)) (section book owners of_rows) defs rows

-- the rows without those of one table
abbrev pub without : ℕ → RowMap → RowMap
without table rows number key = if table == number then None else rows number key

-- the rows without those of one table with these keys
abbrev pub without_keys : ℕ → List Row → RowMap → RowMap
without_keys table keys rows number key = if (table == number) && list_any (λ one. key_eq one key) keys then None else rows number key

-- the rows that a change of the schema leaves
abbrev pub rows_left : SchemaChange → RowMap → RowMap
rows_left (CreateTable def) rows = rows
rows_left (DropTable table) rows = without table rows
rows_left (CreateIndex index) rows = rows
