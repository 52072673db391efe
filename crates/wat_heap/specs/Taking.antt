-- How the rows of a page are taken over.
use Rattle.std.specs.Prelude.{◌≡◌, ℕ, ◌+◌, ◌==◌, List, [], ◌∷◌, ◌++◌, Option, Some, None, if◌then◌else◌}
use Rattle.std.specs.List.{find, AllByRecursion}
use Rattle.wat_value.specs.declared.definition.TableDef.{TableDef}
use Rattle.wat_slot.specs.Cells.{IsCellPage}
use Rattle.wat_book.specs.Book.{Section}
use Rattle.wat_rows.specs.Rows.{Row, NamedRow, RowMap, Defs, cell_of, cells_of, name_is, IsRowOf}
use Rattle.wat_directory.specs.declared.directory.Directory.{Directory}
use Rattle.wat_directory.specs.Known.{page_at, place_at, names_in, Holds}
use Rattle.wat_directory.specs.Steps.{SetsPage, SetsPlace}

-- the definition of the table with the number
abbrev pub def_in : List TableDef → Defs
def_in defs table = find (λ def. table == def.number) defs

-- the row in the cell is taken over behind those of the page
pub record TakesRow (defs : Defs) (page used : ℕ) (cell : List ℕ) (old new : Directory) : Type 0 where
  pub it : NamedRow
  pub cell_is : cell ≡ cell_of it
  pub allowed : IsRowOf defs it
  pub fresh : place_at old it.name.table it.name.key ≡ None
  pub page_set : SetsPage page (Some (record { used = used; names = names_in (page_at old page) ++ it.name ∷ [] })) old new
  pub place_set : SetsPlace it.name.table it.name.key (Some page) old new

-- the cell has no row that may stand, of which none with its key stands yet
abbrev pub NoRow : Defs → List ℕ → Directory → Type 0
NoRow defs cell d = (it : NamedRow) → cell ≡ cell_of it → IsRowOf defs it → place_at d it.name.table it.name.key ≡ None → ⊥

-- the rows and one more
abbrev pub with_row : NamedRow → RowMap → RowMap
with_row it rows table key = if name_is table key it.name then Some it.row else rows table key

-- the rows and these, of which each comes under a key that none had before
abbrev pub AddsAll : List NamedRow → RowMap → RowMap → Type 0
AddsAll [] rows after = (table : ℕ) (key : Row) → after table key ≡ rows table key
AddsAll (it ∷ more) rows after = (rows it.name.table it.name.key ≡ None) × AddsAll more (with_row it rows) after

-- Each cell has a row of a table that stands, whose values pass the tests of their columns, and no key of a table comes twice. With these rows those rows become others.
pub record IsRowList (defs : Defs) (cells : List (List ℕ)) (rows after : RowMap) : Type 0 where
  pub list : List NamedRow
  pub cells_are : cells ≡ cells_of list
  pub allowed : AllByRecursion (IsRowOf defs) list
  pub adds : AddsAll list rows after

-- The page is a row page of such cells.
pub record IsRowPage (defs : Defs) (bytes : List ℕ) (rows after : RowMap) : Type 0 where
  pub cells : List (List ℕ)
  pub page : IsCellPage bytes cells
  pub are : IsRowList defs cells rows after

-- the section and a page more
abbrev pub with_page : ℕ → List ℕ → Section → Section
with_page page bytes pages other = if page == other then Some bytes else pages other

-- the rows of these cells are taken over, whatever else the page has
pub record TakesList (defs : Defs) (page : ℕ) (cells : List (List ℕ)) (pages : Section) (rows : RowMap) (new : Directory) : Type 0 where
  pub after : RowMap
  pub are : IsRowList defs cells rows after
  pub holds : (bytes : List ℕ) → IsCellPage bytes cells → Holds new (with_page page bytes pages) defs after

-- the rows of the page are taken over
pub record Takes (defs : Defs) (bytes : List ℕ) (page : ℕ) (pages : Section) (rows : RowMap) (new : Directory) : Type 0 where
  pub after : RowMap
  pub is : IsRowPage defs bytes rows after
  pub holds : Holds new (with_page page bytes pages) defs after
