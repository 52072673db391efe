-- What the objects hold on their pages.
use Rattle.std.specs.Prelude.{◌≡◌, ℕ, List}
use Rattle.wat_disk.specs.Disk.{Told}
use Rattle.wat_book.specs.Book.{Book, Owners, Section, section, IsOwned}
use Rattle.wat_book.specs.Chains.{HoldsPayload}
use Rattle.wat_pages.specs.declared.pages.Pages.{Pages}
use Rattle.wat_pages.specs.Pages.{header_of, IsPagesOf, book_of}
use Rattle.wat_rows.specs.Pages.{of_rows}
use Rattle.wat_directory.specs.Known as directory
use Rattle.wat_heap.specs.declared.heap.Heap.{Heap}
use Rattle.wat_heap.specs.Heaps.{directory_of}
use Rattle.wat_value.specs.declared.change.Change.{Change}
use Rattle.wat_schema.specs.Catalog.{Catalog, def_at}
use Rattle.wat_schema.specs.Tables.{IsTables, catalog_of, row_at}
use Rattle.wat_spelled.specs.Schema.{SpellsSchema}
use Rattle.wat_undo.specs.Kept as kept
use Rattle.wat_replay.specs.State.{State, Lists}
use Rattle.wat_held.specs.Held.{in_catalog, in_rollback, AreKnown}
use Rattle.wat_objects.specs.declared.objects.Objects.{Objects}

abbrev pub pages_of : Objects → Pages
pages_of x = x.pages

abbrev pub heap_of : Objects → Heap
heap_of x = x.heap

abbrev pub schema_of : Objects → Catalog
schema_of x = x.schema

-- the first page of the chain that has the schema
abbrev pub catalog_page_of : Objects → ℕ
catalog_page_of x = x.catalog

-- the connections with changes, each with its own
abbrev pub undo_of : Objects → List (ℕ × List Change)
undo_of x = x.undo

abbrev pub lists_of : Objects → Lists
lists_of x = kept.lists_of x.undo

-- The pages are the chain, from this page on, that has the schema.
pub record HoldsSchemaChain (pages : Section) (first : ℕ) (schema : Catalog) : Type 0 where
  pub payload : List ℕ
  pub chain : HoldsPayload pages first payload
  pub spells : SpellsSchema payload schema

-- The pages are a chain from this page on.
pub record HoldsChain (pages : Section) (first : ℕ) : Type 0 where
  pub payload : List ℕ
  pub chain : HoldsPayload pages first payload

-- The objects hold a state on these pages, each on its own: the rows, the schema's chain, and the chain of the changes to roll back as the last checkpoint's header names it. The changes
-- themselves stand in memory.
pub record HoldsOn (book : Book) (x : Objects) (s : State) : Type 0 where
  pub owners : Owners
  pub free : List ℕ
  pub owned : IsOwned book owners free
  pub are_known : AreKnown book.count owners
  pub schema : schema_of x ≡ catalog_of s.tables
  pub catalog : HoldsSchemaChain (section book owners in_catalog) (catalog_page_of x) (catalog_of s.tables)
  pub rollback : HoldsChain (section book owners in_rollback) (header_of (pages_of x)).rollback
  pub rows : directory.Holds (directory_of (heap_of x)) (section book owners of_rows) (def_at (catalog_of s.tables)) (row_at s.tables)
  pub lists : lists_of x ≡ s.lists
  pub tables : IsTables s.tables

-- The objects hold a state on their pages.
pub record Holds (told : Told) (x : Objects) (s : State) : Type 0 where
  pub known : IsPagesOf told (pages_of x)
  pub on : HoldsOn (book_of told (pages_of x)) x s
