-- The row that a change is about.
use Rattle.std.specs.Prelude.{ℕ, List, Option, Some, None}
use Rattle.wat_value.specs.declared.value.Value.{Value}
use Rattle.wat_value.specs.declared.definition.TableDef.{TableDef}
use Rattle.wat_value.specs.declared.change.Change.{Change}
use Rattle.wat_value.specs.declared.change.Change.TheVariants.{Insert, Update, Delete}
use Rattle.wat_value.specs.Fits.{key_of}

-- a row by its table and its primary key
pub record RowName : Type 0 where
  pub table : ℕ
  pub key : List Value

abbrev pub row_name : TableDef → List Value → RowName
row_name def row = record { table = def.number; key = key_of def row }

abbrev pub changed_table : Change → ℕ
changed_table (Insert table row) = table
changed_table (Update table before after) = table
changed_table (Delete table before) = table

-- the row before the change, and none before an Insert
abbrev pub row_before : Change → Option (List Value)
row_before (Insert table row) = None
row_before (Update table before after) = Some before
row_before (Delete table before) = Some before

-- the row after the change, and none after a Delete
abbrev pub row_after : Change → Option (List Value)
row_after (Insert table row) = Some row
row_after (Update table before after) = Some after
row_after (Delete table before) = None

-- the row that a change of a table of this definition is about
abbrev pub changed_row : TableDef → Change → RowName
changed_row def (Insert table row) = record { table = table; key = key_of def row }
changed_row def (Update table before after) = record { table = table; key = key_of def before }
changed_row def (Delete table before) = record { table = table; key = key_of def before }
