-- Which rows stand on which pages.
use Rattle.std.specs.Prelude.{◌≡◌, ℕ, ◌+◌, ◌<◌, ◌≤◌, ◌==◌, Bool, true, false, List, [], ◌∷◌, ◌++◌, Option, Some, None, unwrap_or, if◌then◌else◌}
use Rattle.std.specs.List.{AllByRecursion}
use Rattle.wat_slot.specs.Cells.{IsCellPage}
use Rattle.wat_book.specs.Book.{Section}
use Rattle.wat_rows.specs.declared.name.RowName.{RowName}
use Rattle.wat_rows.specs.Rows.{Row, NamedRow, RowMap, Defs, cells_of, names_of, name_is, row_named, times, IsRowOf}

-- the rows of each page in the order of their cells, and none of a page that is no row page
abbrev pub Layout : Type 0
Layout = ℕ → Option (List NamedRow)

-- on which page each row stands, by table and key
abbrev pub PlaceMap : Type 0
PlaceMap = ℕ → Row → Option ℕ

abbrev pub rows_on : Layout → ℕ → List NamedRow
rows_on on page = unwrap_or (on page) []

-- a page of the section is a row page of these rows, and no other page has rows
abbrev pub Stands : Option (List ℕ) → Option (List NamedRow) → Type 0
Stands None None = Unit {0}
Stands None (Some rows) = ⊥
Stands (Some bytes) None = ⊥
Stands (Some bytes) (Some rows) = IsCellPage bytes (cells_of rows)

abbrev pub is_at : ℕ → Option ℕ → Bool
is_at page None = false
is_at page (Some place) = place == page

-- the row with this table and key on the page where it stands
abbrev pub row_where : Layout → ℕ → Row → Option ℕ → Option Row
row_where on table key None = None
row_where on table key (Some page) = row_named table key (rows_on on page)

-- Each row stands once, on the page that is said of it, as a row of a table that stands. These are the rows.
pub record AreNamed (defs : Defs) (on : Layout) (place : PlaceMap) (rows : RowMap) : Type 0 where
  pub allowed : (page : ℕ) → AllByRecursion (IsRowOf defs) (rows_on on page)
  pub once : (page table : ℕ) (key : Row) → times table key (names_of (rows_on on page)) ≡ (if is_at page (place table key) then 1 else 0)
  pub found : (table : ℕ) (key : Row) → rows table key ≡ row_where on table key (place table key)

-- All pages of the section are row pages.
abbrev pub AreRowPages : Section → Layout → Type 0
AreRowPages pages on = (page : ℕ) → Stands (pages page) (on page)

-- The pages of the section are row pages, and hold these rows and no others.
pub record HoldRows (pages : Section) (defs : Defs) (rows : RowMap) : Type 0 where
  pub on : Layout
  pub place : PlaceMap
  pub stand : AreRowPages pages on
  pub named : AreNamed defs on place rows

-- whose the row pages are
abbrev pub of_rows : ℕ
of_rows = 4

-- a page more, or another in its place
abbrev pub with_rows : ℕ → Option (List NamedRow) → Layout → Layout
with_rows page rows on other = if page == other then rows else on other

-- the row with this name stands there now
abbrev pub with_place : RowName → Option ℕ → PlaceMap → PlaceMap
with_place name at place table key = if name_is table key name then at else place table key
