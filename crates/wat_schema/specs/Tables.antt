-- Tables with their rows, and what an act makes of them.
use Rattle.std.specs.Prelude.{◌≡◌, ℕ, ◌+◌, ◌==◌, ◌&&◌, not, Bool, true, List, [], ◌∷◌, ◌++◌, map, Option, Some, None, is_some, if◌then◌else◌}
use Rattle.std.specs.List.{find, filter, list_any, list_all}
use Rattle.std.specs.Option.{option_map, option_and_then}
use Rattle.std.specs.Ordering.{is_lt, is_gt}
use Rattle.std.specs.declared.cmp.Ordering.{Ordering}
use Rattle.wat_value.specs.declared.value.Value.{Value}
use Rattle.wat_value.specs.declared.definition.TableDef.{TableDef}
use Rattle.wat_value.specs.declared.definition.IndexDef.{IndexDef}
use Rattle.wat_value.specs.declared.change.Change.{Change}
use Rattle.wat_value.specs.declared.change.Change.TheVariants.{Insert, Update, Delete}
use Rattle.wat_value.specs.declared.change.SchemaChange.{SchemaChange}
use Rattle.wat_value.specs.declared.change.SchemaChange.TheVariants.{CreateTable, DropTable, CreateIndex}
use Rattle.wat_value.specs.declared.change.Act.{Act}
use Rattle.wat_value.specs.declared.change.Act.TheVariants.{OnRow, OnSchema}
pub use Rattle.wat_list.specs.Rising.{rising}
use Rattle.wat_value.specs.Order.{key_cmp, key_eq}
use Rattle.wat_value.specs.Fits.{fits, key_of}
use Rattle.wat_schema.specs.Catalog.{Catalog, Listing, in_order}
use Rattle.wat_schema.specs.Definitions.{allows, with_index}
use Rattle.wat_schema.specs.Stored.{IsCatalog}

abbrev pub Row : Type 0
Row = List Value

-- a definition, its indexes, and rows in key order with distinct keys
pub record Table : Type 0 where
  pub def : TableDef
  pub indexes : List IndexDef
  pub rows : List Row

-- the tables by number, and the next table number
pub record Tables : Type 0 where
  pub tables : List Table
  pub next : ℕ

abbrev pub no_tables : Tables
no_tables = record { tables = []; next = 1 }

abbrev pub listing_of : Table → Listing
listing_of x = record { def = x.def; indexes = x.indexes }

-- the schema of the tables
abbrev pub catalog_of : Tables → Catalog
catalog_of t = record { tables = map listing_of t.tables; next = t.next }

abbrev pub table_at : Tables → ℕ → Option Table
table_at t number = find (λ x. number == x.def.number) t.tables

-- the rows of a table, and none where it doesn't stand
abbrev pub rows_or_none : Option Table → List Row
rows_or_none None = []
rows_or_none (Some x) = x.rows

abbrev pub rows_at : Tables → ℕ → List Row
rows_at t number = rows_or_none (table_at t number)

-- two rows have the same values
abbrev pub row_eq : Row → Row → Bool
row_eq = key_eq

-- two rows by their primary keys
abbrev pub by_key : TableDef → Row → Row → Ordering
by_key def a b = key_cmp (key_of def a) (key_of def b)

-- the row of the table with the key
abbrev pub row_with : Table → List Value → Option Row
row_with x key = find (λ row. key_eq (key_of x.def row) key) x.rows

-- the row with the key in the table with the number
abbrev pub row_at : Tables → ℕ → List Value → Option Row
row_at t number key = option_and_then (λ x. row_with x key) (table_at t number)

abbrev pub has_key : Table → List Value → Bool
has_key x key = is_some (row_with x key)

abbrev pub has_row : Table → Row → Bool
has_row x row = list_any (row_eq row) x.rows

-- the rows with this one between those with lesser and those with greater keys
abbrev pub with_row : TableDef → Row → List Row → List Row
with_row def row rows = filter (λ other. is_lt (by_key def other row)) rows ++ row ∷ filter (λ other. is_gt (by_key def other row)) rows

-- Insert applies where the row passes the column tests and no row has its key.
abbrev pub after_insert : Row → Table → Option Table
after_insert row x = if fits x.def row && not (has_key x (key_of x.def row)) then Some (record x { rows = with_row x.def row x.rows }) else None

-- Update applies where `before` stands and `after` has the same key and passes the column tests.
abbrev pub after_update : Row → Row → Table → Option Table
after_update before after x =
    if has_row x before && key_eq (key_of x.def before) (key_of x.def after) && fits x.def after
    then Some (record x { rows = map (λ row. if row_eq row before then after else row) x.rows }) else None

-- Delete applies where `before` stands.
abbrev pub after_delete : Row → Table → Option Table
after_delete before x = if has_row x before then Some (record x { rows = filter (λ row. not (row_eq row before)) x.rows }) else None

-- the tables with this one in the place of the one with the number
abbrev pub with_table : ℕ → Tables → Table → Tables
with_table number t x = record t { tables = map (λ other. if number == other.def.number then x else other) t.tables }

-- A change applies where its table stands and takes it.
abbrev pub on_table : ℕ → (Table → Option Table) → Tables → Option Tables
on_table number change t = option_and_then (λ x. option_map (with_table number t) (change x)) (table_at t number)

abbrev pub apply_change : Change → Tables → Option Tables
apply_change (Insert table row) = on_table table (after_insert row)
apply_change (Update table before after) = on_table table (after_update before after)
apply_change (Delete table before) = on_table table (after_delete before)

-- the table, with the index where it is one of its own
abbrev pub indexed : IndexDef → Table → Table
indexed index x = record x { indexes = (with_index index (listing_of x)).indexes }

-- the tables after a schema change
abbrev pub after_alter : SchemaChange → Tables → Tables
after_alter (CreateTable def) t = record { tables = t.tables ++ record { def = def; indexes = []; rows = [] } ∷ []; next = t.next + 1 }
after_alter (DropTable table) t = record t { tables = filter (λ x. not (table == x.def.number)) t.tables }
after_alter (CreateIndex index) t = record t { tables = map (indexed index) t.tables }

-- the tables after an act that applies
abbrev pub apply : Act → Tables → Option Tables
apply (OnRow change) t = apply_change change t
apply (OnSchema change) t = if allows change (catalog_of t) then Some (after_alter change t) else None

-- the tables after acts of which each applies
abbrev pub apply_all : List Act → Tables → Option Tables
apply_all [] t = Some t
apply_all (act ∷ acts) t = option_and_then (apply_all acts) (apply act t)

-- the inverse of a change
abbrev pub inverse : Change → Change
inverse (Insert table row) = Delete table row
inverse (Update table before after) = Update table after before
inverse (Delete table before) = Insert table before

-- ---- the tables of a database

-- The rows fit the definition, and stand in key order with distinct keys.
abbrev pub is_table : Table → Bool
is_table x = list_all (fits x.def) x.rows && rising (by_key x.def) x.rows

-- Such tables stand in the order of their numbers, below the next one.
abbrev pub are_tables : Tables → Bool
are_tables t = in_order (catalog_of t) && list_all is_table t.tables

-- What holds of the tables of a database: the schema is a catalog, and of each table the rows fit its definition and stand in key order with distinct keys.
pub record IsTables (t : Tables) : Type 0 where
  pub catalog : IsCatalog (catalog_of t)
  pub rows : list_all is_table t.tables ≡ true
