-- How tables are kept. Only functions within the crate cite this.
use Rattle.std.specs.Prelude.{◌≡◌, ℕ, Bool, true, List, map, Option, Some, None, is_some, if◌then◌else◌}
use Rattle.std.specs.Map.{lookup}
use Rattle.std.specs.BTreeMap.{insert_entry, is_at}
use Rattle.wat_value.specs.declared.definition.TableDef.{TableDef}
use Rattle.wat_value.specs.Fits.{key_of}
use Rattle.wat_value.specs.Order.{key_cmp}
use Rattle.wat_schema.specs.Catalog.{Catalog, numbers_of}
use Rattle.wat_schema.specs.Tables.{Row, Table, Tables, IsTables, catalog_of, is_table}
use Rattle.wat_expr.specs.Evaluation.{Combination}
use Rattle.wat_meaning.specs.Meaning.{alone, sole_row}

-- a row under its primary key, as the combination of it alone
abbrev pub under_key : TableDef → Row → Row × Combination
under_key def row = (key_of def row, alone row)

-- the rows of a map
abbrev pub rows_of : List (Row × Combination) → List Row
rows_of entries = map (λ e. sole_row e.1) entries

-- the key is there
abbrev pub is_there : Row → List (Row × Combination) → Bool
is_there key entries = is_some (lookup (is_at (key_cmp key)) entries)

-- the key, where it is there
abbrev pub key_there : Row → List (Row × Combination) → Option Row
key_there key entries = if is_there key entries then Some key else None

-- the entries with these rows under the key, unless it is there
abbrev pub put_in : Row → Combination → List (Row × Combination) → List (Row × Combination)
put_in key rows entries = if is_there key entries then entries else insert_entry key_cmp entries key rows

-- Each row stands under its key, and the table is in order.
pub record IsKeyed (x : Table) (entries : List (Row × Combination)) : Type 0 where
  pub keyed : entries ≡ map (under_key x.def) x.rows
  pub ok : is_table x ≡ true

-- The tables are those of the schema, in the order of their numbers, and what holds of a database's tables holds of them.
pub record IsOfSchema (t : Tables) (schema : Catalog) (numbers : List ℕ) : Type 0 where
  pub listed : catalog_of t ≡ schema
  pub numbered : numbers ≡ numbers_of schema.tables
  pub ok : IsTables t
