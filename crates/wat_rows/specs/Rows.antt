-- Rows by their tables and keys, and their cells.
use Rattle.std.specs.Prelude.{◌≡◌, ℕ, ◌+◌, ◌<◌, ◌^◌, ◌==◌, ◌&&◌, Bool, true, List, [], ◌∷◌, ◌++◌, length, map, Option, Some, None, if◌then◌else◌}
use Rattle.std.specs.List.{find}
use Rattle.std.specs.Option.{option_map}
use Rattle.std.specs.Int.{w32, to_be_bytes}
use Rattle.wat_value.specs.declared.value.Value.{Value}
use Rattle.wat_value.specs.declared.definition.TableDef.{TableDef}
use Rattle.wat_value.specs.Encoding.{row_bytes, IsEncodable}
use Rattle.wat_value.specs.Fits.{fits, key_of}
use Rattle.wat_value.specs.Order.{key_eq}
use Rattle.wat_slot.specs.Cells.{cells_bytes}
use Rattle.wat_rows.specs.declared.name.RowName.{RowName}

abbrev pub Row : Type 0
Row = List Value

-- a row and what it is found by
pub record NamedRow : Type 0 where
  pub name : RowName
  pub row : Row

abbrev pub name_is : ℕ → Row → RowName → Bool
name_is table key name = (name.table == table) && key_eq name.key key

-- a row as it is written: its table's number in 4 bytes, the highest first, and the row
abbrev pub row_cell : ℕ → Row → List ℕ
row_cell table row = to_be_bytes w32 table ++ row_bytes row

abbrev pub cell_of : NamedRow → List ℕ
cell_of it = row_cell it.name.table it.row

abbrev pub cells_of : List NamedRow → List (List ℕ)
cells_of rows = map cell_of rows

abbrev pub names_of : List NamedRow → List RowName
names_of rows = map (λ (it : NamedRow). it.name) rows

-- how many bytes a cell takes on a page, with its length
abbrev pub size_of : List ℕ → ℕ
size_of cell = 2 + length cell

-- how many bytes the cells of rows take
abbrev pub used_by : List NamedRow → ℕ
used_by rows = length (cells_bytes (cells_of rows))

-- of rows, the one with this table and key
abbrev pub row_named : ℕ → Row → List NamedRow → Option Row
row_named table key rows = option_map (λ (it : NamedRow). it.row) (find (λ (it : NamedRow). name_is table key it.name) rows)

-- how often a name stands
abbrev pub times : ℕ → Row → List RowName → ℕ
times table key [] = 0
times table key (name ∷ names) = (if name_is table key name then 1 else 0) + times table key names

-- the definitions of tables, by their numbers
abbrev pub Defs : Type 0
Defs = ℕ → Option TableDef

-- the rows of all tables, by table and key
abbrev pub RowMap : Type 0
RowMap = ℕ → Row → Option Row

-- A row that may stand: its table does, its values pass the tests of their columns, and it is found by its primary key.
pub record IsRowOf (defs : Defs) (it : NamedRow) : Type 0 where
  pub number : it.name.table < 2 ^ 32
  pub encodable : IsEncodable it.row
  pub def : TableDef
  pub stands : defs it.name.table ≡ Some def
  pub fits : fits def it.row ≡ true
  pub key : it.name.key ≡ key_of def it.row

-- After a change of the row at one table and key, all others are as before.
abbrev pub Sets : RowMap → ℕ → Row → Option Row → RowMap → Type 0
Sets rows table key row after = (t : ℕ) (k : Row) → after t k ≡ (if (table == t) && key_eq key k then row else rows t k)
