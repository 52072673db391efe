-- What pages hold between two checkpoints: whose they are, and what each object holds on its own.
use Rattle.std.specs.Prelude.{◌≡◌, ℕ, ◌<◌, ◌≤◌, List}
use Rattle.wat_restore.specs.Head.{Head}
use Rattle.wat_restore.specs.Restored.{Checkpoint}
use Rattle.wat_book.specs.Book.{Book, Owners, header, Section, section, IsOwned}
use Rattle.wat_book.specs.Chains.{HoldsPayload}
use Rattle.wat_rows.specs.Rows.{Row, RowMap}
use Rattle.wat_rows.specs.Pages.{HoldRows, of_rows}
use Rattle.wat_schema.specs.Catalog.{Catalog, def_at}
use Rattle.wat_schema.specs.Tables.{Tables, catalog_of, row_at}
use Rattle.wat_replay.specs.State.{State, Lists, IsLawful}
use Rattle.wat_spelled.specs.Changes.{TellsLists}
use Rattle.wat_files.specs.Formed.{HoldsSchema}

-- whose the pages of the two chains are; those of rows have an owner too
abbrev pub in_catalog : ℕ
in_catalog = 2

abbrev pub in_rollback : ℕ
in_rollback = 3

-- Each page below the count is free, of the catalog, of the changes to roll back, or of rows; or it is page 0, which is the header's.
abbrev pub AreKnown : ℕ → Owners → Type 0
AreKnown count owners = (page : ℕ) → page < count → (owners page < 5) × (owners page ≡ header → page ≡ 0)

-- The pages are the chain that holds the schema.
pub record HoldsCatalog (pages : Section) (head : Head) (schema : Catalog) : Type 0 where
  pub payload : List ℕ
  pub chain : HoldsPayload pages head.catalog payload
  pub is : HoldsSchema head payload schema

-- The pages are the chain that tells the changes to roll back.
pub record HoldsChanges (pages : Section) (head : Head) (lists : Lists) : Type 0 where
  pub payload : List ℕ
  pub chain : HoldsPayload pages head.rollback payload
  pub tells : TellsLists head.rollback payload lists

-- The pages hold the rows of the tables, and no others.
pub record HoldsTables (pages : Section) (t : Tables) : Type 0 where
  pub rows : RowMap
  pub hold : HoldRows pages (def_at (catalog_of t)) rows
  pub same : (table : ℕ) (key : Row) → rows table key ≡ row_at t table key

-- Each object holds its part of the state on its own pages, and all pages have owners.
pub record HoldsState (book : Book) (owners : Owners) (free : List ℕ) (head : Head) (s : State) : Type 0 where
  pub owned : IsOwned book owners free
  pub known : AreKnown book.count owners
  pub catalog : HoldsCatalog (section book owners in_catalog) head (catalog_of s.tables)
  pub changes : HoldsChanges (section book owners in_rollback) head s.lists
  pub tables : HoldsTables (section book owners of_rows) s.tables
  pub lawful : IsLawful s

-- The header tells how many pages there are, and the first free one.
pub record IsHeadOf (head : Head) (book : Book) : Type 0 where
  pub count : head.count ≡ book.count
  pub free : head.free ≡ book.first_free

-- The checkpoint has all pages but the header's as they are now.
pub record HasPagesOf (saved : Checkpoint) (book : Book) : Type 0 where
  pub count : saved.count ≡ book.count
  pub pages : (page : ℕ) → 1 ≤ page → page < book.count → saved.page page ≡ book.page page
