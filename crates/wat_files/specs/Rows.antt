-- The rows of the pages that no chain and no list has.
use Rattle.std.specs.Prelude.{◌≡◌, ◌⊎◌, ℕ, ◌-◌, ◌<◌, ◌^◌, nat_eq, not, List, [], ◌∷◌, map, Option, Some, None}
use Rattle.std.specs.List.{list_any, filter, range_with_len, AllByRecursion}
use Rattle.wat_book.specs.Book.{Section}
use Rattle.wat_slot.specs.Cells.{IsCellPage}
use Rattle.wat_rows.specs.Rows.{row_cell}
use Rattle.wat_value.specs.Encoding.{IsEncodable}
use Rattle.wat_value.specs.declared.change.Change.TheVariants.{Insert}
use Rattle.wat_value.specs.declared.change.Act.{Act}
use Rattle.wat_value.specs.declared.change.Act.TheVariants.{OnRow}
use Rattle.wat_schema.specs.Catalog.{Catalog, Listing}
use Rattle.wat_schema.specs.Tables.{Row, Table, Tables, apply_all}

-- a row of a table by its number
abbrev pub Placed : Type 0
Placed = ℕ × Row

abbrev pub cell_of : Placed → List ℕ
cell_of placed = row_cell placed.0 placed.1

pub record IsPlaced (placed : Placed) : Type 0 where
  pub table : placed.0 < 2 ^ 32
  pub row : IsEncodable placed.1

-- The bytes are a page of these rows.
pub record IsRowPage (bytes : List ℕ) (rows : List Placed) : Type 0 where
  pub cells : IsCellPage bytes (map cell_of rows)
  pub encodable : AllByRecursion IsPlaced rows

-- There is such a page here.
abbrev pub HasRows : Option (List ℕ) → List Placed → Type 0
HasRows None rows = ⊥
HasRows (Some bytes) rows = IsRowPage bytes rows

-- the tables of the schema, without rows
abbrev pub emptied : Catalog → Tables
emptied schema = record { tables = map (λ (x : Listing). record { def = x.def; indexes = x.indexes; rows = [] }) schema.tables; next = schema.next }

abbrev pub inserts : List Placed → List Act
inserts rows = map (λ (placed : Placed). OnRow (Insert placed.0 placed.1)) rows

-- The page is a row page, and its rows can be put into the tables: their tables stand, they pass the column tests, and no key is there.
pub record AddsPage (pages : Section) (page : ℕ) (t next : Tables) : Type 0 where
  pub rows : List Placed
  pub has : HasRows (pages page) rows
  pub added : apply_all (inserts rows) t ≡ Some next

-- The rows of these pages, page by page, lead from the one tables to the other.
abbrev pub AddsPages : Section → List ℕ → Tables → Tables → Type 0
AddsPages pages [] t last = t ≡ last
AddsPages pages (page ∷ list) t last = (next : Tables) × AddsPage pages page t next × AddsPages pages list next last

-- This is the first of the pages whose rows can't be put into the tables.
abbrev pub RowsStop : Section → List ℕ → Tables → ℕ → Type 0
RowsStop pages [] t stop = ⊥
RowsStop pages (page ∷ list) t stop =
    ((stop ≡ page) × ((next : Tables) → AddsPage pages page t next → ⊥)) ⊎ ((next : Tables) × AddsPage pages page t next × RowsStop pages list next stop)

-- the pages from one on, so many, less these
abbrev pub pages_but : List ℕ → ℕ → ℕ → List ℕ
pages_but listed from many = filter (λ page. not (list_any (nat_eq page) listed)) (range_with_len from many)

-- all pages but the header's and these, in ascending order
abbrev pub other_pages : ℕ → List ℕ → List ℕ
other_pages count listed = pages_but listed 1 (count - 1)
