-- The schema as a payload.
use Rattle.std.specs.Prelude.{◌≡◌, ℕ, suc, ◌<◌, ◌==◌, ◌&&◌, Bool, true, List, [], ◌∷◌, ◌++◌, length}
use Rattle.std.specs.List.{flat_map, list_all, AllByRecursion}
use Rattle.wat_value.specs.declared.definition.TableDef.{TableDef}
use Rattle.wat_value.specs.declared.definition.IndexDef.{IndexDef}
use Rattle.wat_schema.specs.Catalog.{Catalog, Listing, in_order}
use Rattle.wat_log_record.specs.Encoding.{number_bytes, table_bytes, index_bytes, IsNumber, IsEncodableTable, IsEncodableIndex}

-- a table, how many indexes it has, and these
abbrev pub listing_bytes : Listing → List ℕ
listing_bytes x = table_bytes x.def ++ (length x.indexes ∷ flat_map index_bytes x.indexes)

-- how many tables, and each with its indexes
abbrev pub catalog_bytes : List Listing → List ℕ
catalog_bytes tables = number_bytes (length tables) ++ flat_map listing_bytes tables

pub record IsEncodableListing (x : Listing) : Type 0 where
  pub def : IsEncodableTable x.def
  pub few : length x.indexes < 256
  pub indexes : AllByRecursion IsEncodableIndex x.indexes

-- the numbers of a table's indexes count on, and each names its table
abbrev pub are_numbered : TableDef → ℕ → List IndexDef → Bool
are_numbered def number [] = true
are_numbered def number (index ∷ indexes) = (index.number == number) && (index.table == def.number) && are_numbered def (suc number) indexes

-- The payload is that of this schema. The numbers of its tables ascend, from 1 on and below the next one, and those of each table's indexes count on from 1.
pub record SpellsSchema (payload : List ℕ) (schema : Catalog) : Type 0 where
  pub bytes : payload ≡ catalog_bytes schema.tables
  pub few : IsNumber (length schema.tables)
  pub encodable : AllByRecursion IsEncodableListing schema.tables
  pub order : in_order schema ≡ true
  pub numbered : list_all (λ x. are_numbered x.def 1 x.indexes) schema.tables ≡ true
