-- Tables without rows, and what a change makes of its own table.
use Rattle.std.specs.Prelude.{Bool, false, List, [], map, Option, Some, None, if◌then◌else◌}
use Rattle.wat_value.specs.declared.definition.TableDef.{TableDef}
use Rattle.wat_value.specs.declared.definition.IndexDef.{IndexDef}
use Rattle.wat_value.specs.declared.change.Change.{Change}
use Rattle.wat_value.specs.declared.change.Change.TheVariants.{Insert, Update, Delete}
use Rattle.wat_value.specs.Fits.{fits, key_of}
use Rattle.wat_schema.specs.Catalog.{Catalog, Listing}
use Rattle.wat_schema.specs.Tables.{Row, Table, Tables, after_insert, after_update, after_delete, has_key}

abbrev pub empty_table : TableDef → List IndexDef → Table
empty_table def indexes = record { def = def; indexes = indexes; rows = [] }

-- the tables of a schema, without rows
abbrev pub empty_tables : Catalog → Tables
empty_tables c = record { tables = map (λ t. empty_table t.def t.indexes) c.tables; next = c.next }

-- the table after a change of one of its rows that applies
abbrev pub table_after : Change → Table → Option Table
table_after (Insert table row) = after_insert row
table_after (Update table before after) = after_update before after
table_after (Delete table before) = after_delete before

-- the table stands, and the row fits it
abbrev pub is_fitting : Option Table → Row → Bool
is_fitting None row = false
is_fitting (Some x) row = fits x.def row

-- the key of the row, where a row of the table has it
abbrev pub standing_key : Option Table → Row → Option Row
standing_key None row = None
standing_key (Some x) row = let key = key_of x.def row in if has_key x key then Some key else None
