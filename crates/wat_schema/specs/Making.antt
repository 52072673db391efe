-- How a schema is made of stored definitions, one change after another. Which lists are stored ones is said in Stored.
use Rattle.std.specs.Prelude.{ℕ, ◌&&◌, nat_le, Bool, true, List, [], ◌∷◌, Option, Some, None, if◌then◌else◌}
use Rattle.std.specs.Option.{option_and_then}
use Rattle.wat_value.specs.declared.definition.TableDef.{TableDef}
use Rattle.wat_value.specs.declared.definition.IndexDef.{IndexDef}
use Rattle.wat_value.specs.declared.change.SchemaChange.TheVariants.{CreateTable, CreateIndex}
use Rattle.wat_schema.specs.Catalog.{Catalog, empty_catalog}
use Rattle.wat_schema.specs.Definitions.{allows_table, allows_index, altered}

-- the numbers below this one are used up
abbrev pub numbered_from : ℕ → Catalog → Catalog
numbered_from n c = record c { next = n }

-- each table made in turn under its own number, where it may be
abbrev pub with_tables_of : List TableDef → Catalog → Option Catalog
with_tables_of [] c = Some c
with_tables_of (def ∷ defs) c =
    if nat_le c.next def.number && allows_table (numbered_from def.number c) def
    then with_tables_of defs (altered (CreateTable def) (numbered_from def.number c)) else None

-- each index made in turn, where it may be
abbrev pub with_indexes_of : List IndexDef → Catalog → Option Catalog
with_indexes_of [] c = Some c
with_indexes_of (index ∷ indexes) c = if allows_index c index then with_indexes_of indexes (altered (CreateIndex index) c) else None

abbrev pub followed_by : ℕ → Catalog → Option Catalog
followed_by next c = if nat_le c.next next then Some (numbered_from next c) else None

-- the tables made, then the indexes, and the numbers below the next one used up, where all of it may be
abbrev pub made_from : List TableDef → List IndexDef → ℕ → Option Catalog
made_from defs indexes next =
    option_and_then (followed_by next) (option_and_then (with_indexes_of indexes) (with_tables_of defs empty_catalog))

-- No index comes before one of a lower table.
abbrev pub in_table_order : ℕ → List IndexDef → Bool
in_table_order low [] = true
in_table_order low (index ∷ indexes) = nat_le low index.table && in_table_order index.table indexes

-- The schema of these tables and indexes, where they and the next table number are one. So numbers of tables ascend, are at least 1 and are below
-- the next one, indexes stand in the order of their tables, the numbers of a table's indexes count from 1, names come once, and no rule is broken.
abbrev pub catalog_from : List TableDef → List IndexDef → ℕ → Option Catalog
catalog_from defs indexes next = if in_table_order 0 indexes then made_from defs indexes next else None
