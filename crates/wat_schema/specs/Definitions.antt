-- The rules of tables and of indexes, which schema changes apply, and what they make of a schema.
use Rattle.std.specs.Prelude.{ℕ, suc, ◌+◌, ◌==◌, ◌&&◌, ◌||◌, not, nat_lt, nat_le, Bool, true, false, List, [], ◌∷◌, ◌++◌, length, map, Option, Some, None, is_none, is_some, slice_get, max, if◌then◌else◌}
use Rattle.std.specs.List.{list_any, flat_map, fold, filter, position, position_from}
use Rattle.std.specs.Option.{option_map, option_and_then, unwrap_or}
use Rattle.std.specs.Str.{bytes_eq}
use Rattle.wat_value.specs.declared.definition.Kind.{Kind}
use Rattle.wat_value.specs.declared.definition.Kind.TheVariants.{Integer, Char, Varchar}
use Rattle.wat_value.specs.declared.definition.Column.{Column}
use Rattle.wat_value.specs.declared.definition.TableDef.{TableDef}
use Rattle.wat_value.specs.declared.definition.IndexDef.{IndexDef}
use Rattle.wat_value.specs.declared.change.SchemaChange.{SchemaChange}
use Rattle.wat_value.specs.declared.change.SchemaChange.TheVariants.{CreateTable, DropTable, CreateIndex}
pub use Rattle.wat_value.specs.Widths.{width, widths, width_of, width_at}
use Rattle.wat_schema.specs.Catalog.{Name, Catalog, Listing, has_number, listing_named, listing_at, has_index_named, repeats}

-- ---- columns

-- the number of the first column with the name, and the number of columns where none has it
abbrev pub number_named : List Column → Name → ℕ
number_named columns name = unwrap_or (position (λ column. bytes_eq name column.name) columns) (length columns)

abbrev pub same_name : Column → Column → Bool
same_name a b = bytes_eq a.name b.name

-- a length isn't 1 to 2000
abbrev pub is_bad_length : Kind → Bool
is_bad_length Integer = false
is_bad_length (Char n) = not (nat_le 1 n && nat_le n 2000)
is_bad_length (Varchar n) = not (nat_le 1 n && nat_le n 2000)

abbrev pub takes_null : Option Column → Bool
takes_null None = false
takes_null (Some column) = column.nullable

-- a column with one of these numbers may be NULL
abbrev pub may_be_null : List Column → List ℕ → Bool
may_be_null columns numbers = list_any (λ i. takes_null (slice_get columns i)) numbers

-- a number is that of no column
abbrev pub lacks_column : List Column → List ℕ → Bool
lacks_column columns numbers = list_any (λ i. nat_le (length columns) i) numbers

-- a column comes twice, or isn't there
abbrev pub is_bad_key : List Column → List ℕ → Bool
is_bad_key columns key = repeats ◌==◌ key || lacks_column columns key

-- ---- BadTable and BadIndex

-- the smallest broken rule, from 1
abbrev pub smallest_broken : List Bool → Option ℕ
smallest_broken rules = position_from (λ broken. broken) 1 rules

-- no more tables may be made
abbrev pub is_full : Catalog → Bool
is_full c = nat_le 1000 (length c.tables) || nat_le 4294967295 c.next

-- Which rules of BadTable a table breaks that has these columns, and these primary keys by the numbers of their columns. A key of no columns is none.
abbrev pub table_rules : Bool → List Column → List (List ℕ) → List Bool
table_rules full columns keys =
    let key = flat_map (λ key. key) keys in
    repeats same_name columns
    ∷ (not (length keys == 1) || (length key == 0))
    ∷ is_bad_key columns key
    ∷ (nat_lt 64 (length columns) || nat_lt 16 (length key))
    ∷ list_any (λ column. is_bad_length column.kind) columns
    ∷ nat_lt 3500 (2 + widths columns)
    ∷ nat_lt 400 (width_at columns key)
    ∷ full
    ∷ []

-- the smallest broken one, where no more tables may be made or they may
abbrev pub bad_definition : Bool → List Column → List (List ℕ) → Option ℕ
bad_definition full columns keys = smallest_broken (table_rules full columns keys)

-- the smallest rule of BadTable that is broken, where the primary keys are written by name
abbrev pub bad_table : Catalog → List Column → List (List Name) → Option ℕ
bad_table c columns keys = bad_definition (is_full c) columns (map (map (number_named columns)) keys)

-- Which rules of BadIndex an index over these columns of the table breaks.
abbrev pub index_rules : Listing → List ℕ → List Bool
index_rules t numbers =
    is_bad_key t.def.columns numbers
    ∷ may_be_null t.def.columns numbers
    ∷ ((length numbers == 0) || nat_lt 16 (length numbers))
    ∷ nat_lt 900 (width_at t.def.columns numbers + width_at t.def.columns t.def.key)
    ∷ nat_le 8 (length t.indexes)
    ∷ []

abbrev pub bad_index : Listing → List ℕ → Option ℕ
bad_index t numbers = smallest_broken (index_rules t numbers)

abbrev pub bad_index_at : Catalog → ℕ → List ℕ → Option ℕ
bad_index_at c table numbers = option_and_then (λ t. bad_index t numbers) (listing_at c table)

-- ---- which schema changes apply

-- No column of the primary key may be NULL, and no rule is broken, where no more tables may be made or they may.
abbrev pub is_definition : Bool → TableDef → Bool
is_definition full def = not (may_be_null def.columns def.key) && is_none (bad_definition full def.columns (def.key ∷ []))

-- A table with this definition may be made: it has the next number, and its name is free.
abbrev pub allows_table : Catalog → TableDef → Bool
allows_table c def = (def.number == c.next) && is_none (listing_named c def.name) && is_definition (is_full c) def

-- one more than the table's greatest index number
abbrev pub next_index : Listing → ℕ
next_index t = suc (fold max 0 (map (λ index. index.number) t.indexes))

abbrev pub next_index_at : Catalog → ℕ → Option ℕ
next_index_at c table = option_map next_index (listing_at c table)

-- An index with this definition may be made of the table, where its name is free: it has the table's next index number.
abbrev pub allows_index_here : IndexDef → Listing → Bool
allows_index_here index t = (index.number == next_index t) && is_none (bad_index t index.columns)

abbrev pub allows_index_of : IndexDef → Option Listing → Bool
allows_index_of index None = false
allows_index_of index (Some t) = allows_index_here index t

-- An index with this definition may be made: its table stands, and its name is free.
abbrev pub allows_index : Catalog → IndexDef → Bool
allows_index c index = allows_index_of index (listing_at c index.table) && not (has_index_named c index.name)

-- whether a schema change applies
abbrev pub allows : SchemaChange → Catalog → Bool
allows (CreateTable def) c = allows_table c def
allows (DropTable table) c = is_some (listing_at c table)
allows (CreateIndex index) c = allows_index c index

-- ---- and what they make of the schema

abbrev pub with_index : IndexDef → Listing → Listing
with_index index t = if has_number index.table t then record t { indexes = t.indexes ++ index ∷ [] } else t

abbrev pub altered : SchemaChange → Catalog → Catalog
altered (CreateTable def) c = record { tables = c.tables ++ record { def = def; indexes = [] } ∷ []; next = c.next + 1 }
altered (DropTable table) c = record c { tables = filter (λ t. not (has_number table t)) c.tables }
altered (CreateIndex index) c = record c { tables = map (with_index index) c.tables }
