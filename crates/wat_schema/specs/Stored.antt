-- What a schema is stored as, and which catalogs are those of a database.
use Rattle.std.specs.Prelude.{◌≡◌, ◌≤◌, ℕ, suc, ◌==◌, ◌&&◌, nat_le, Bool, true, false, List, [], ◌∷◌, length, map, is_none}
use Rattle.std.specs.List.{flat_map, list_all}
use Rattle.std.specs.Str.{bytes_eq}
use Rattle.wat_value.specs.declared.definition.TableDef.{TableDef}
use Rattle.wat_value.specs.declared.definition.IndexDef.{IndexDef}
use Rattle.wat_schema.specs.Catalog.{Name, Catalog, Listing, in_order, names_of, repeats}
use Rattle.wat_schema.specs.Definitions.{bad_index, is_definition}

-- the definitions of the tables, by number
abbrev pub defs_of : Catalog → List TableDef
defs_of c = map (λ t. t.def) c.tables

-- the definitions of the indexes, by table and then by number
abbrev pub indexes_of : Catalog → List IndexDef
indexes_of c = flat_map (λ t. t.indexes) c.tables

abbrev pub index_names : List Listing → List Name
index_names tables = flat_map (λ t. map (λ index. index.name) t.indexes) tables

-- no rule is broken by the index, whichever others stand
abbrev pub is_index : TableDef → IndexDef → Bool
is_index def index = is_none (bad_index (record { def = def; indexes = [] }) index.columns)

-- The indexes are the table's, their numbers count on, and each is well defined.
abbrev pub are_indexes : TableDef → ℕ → List IndexDef → Bool
are_indexes def number [] = true
are_indexes def number (index ∷ indexes) =
    (index.number == number) && (index.table == def.number) && is_index def index && are_indexes def (suc number) indexes

-- a table that breaks no rule, with at most 8 indexes that break none
abbrev pub is_whole : Listing → Bool
is_whole t = is_definition false t.def && nat_le (length t.indexes) 8 && are_indexes t.def 1 t.indexes

-- At most 1,000 tables that break no rule, in the order of their numbers, which are below the next one. No two tables have one name, and no two indexes.
pub record IsCatalog (c : Catalog) : Type 0 where
  pub order : in_order c ≡ true
  pub next : c.next ≤ 4294967295
  pub few : length c.tables ≤ 1000
  pub tables : list_all is_whole c.tables ≡ true
  pub names : repeats bytes_eq (names_of c.tables) ≡ false
  pub indexes : repeats bytes_eq (index_names c.tables) ≡ false

-- The catalog is stored as these definitions of tables and of indexes, and this next table number.
pub record IsStored (c : Catalog) (defs : List TableDef) (indexes : List IndexDef) (next : ℕ) : Type 0 where
  pub catalog : IsCatalog c
  pub tables : defs_of c ≡ defs
  pub indexed : indexes_of c ≡ indexes
  pub numbered : c.next ≡ next
