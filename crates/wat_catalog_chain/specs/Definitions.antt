-- What a payload tells of the schema that has this next table number.
use Rattle.std.specs.Prelude.{◌≡◌, ℕ, ◌<◌, ◌==◌, if◌then◌else◌, suc, true, List, [], ◌∷◌, ◌++◌, length, map}
use Rattle.std.specs.List.{flat_map, AllByRecursion}
use Rattle.wat_value.specs.declared.definition.TableDef.{TableDef}
use Rattle.wat_value.specs.declared.definition.IndexDef.{IndexDef}
use Rattle.wat_log_record.specs.Encoding.{IsEncodableIndex, IsWritableTable, IsWritableIndex}
use Rattle.wat_log_record.specs.Reading.{Begins}
use Rattle.wat_schema.specs.Catalog.{Catalog, Listing}
use Rattle.wat_schema.specs.Stored.{IsCatalog, defs_of, indexes_of}
pub use Rattle.wat_spelled.specs.Schema.{listing_bytes, catalog_bytes, are_numbered, IsEncodableListing, SpellsSchema}

-- The payload spells no schema with this next table number.
abbrev pub SpellsNoSchema : List ℕ → ℕ → Type 0
SpellsNoSchema payload next = (c : Catalog) → c.next ≡ next → SpellsSchema payload c → ⊥

-- It spells one that breaks a rule.
pub record SpellsBadSchema (payload : List ℕ) (next : ℕ) : Type 0 where
  pub schema : Catalog
  pub numbered : schema.next ≡ next
  pub spells : SpellsSchema payload schema
  pub bad : IsCatalog schema → ⊥

-- It spells this one, with this next table number.
pub record SpellsThis (payload : List ℕ) (next : ℕ) (schema : Catalog) : Type 0 where
  pub numbered : schema.next ≡ next
  pub spells : SpellsSchema payload schema

-- It spells one of these tables and indexes.
pub record SpellsDefinitions (payload : List ℕ) (next : ℕ) (defs : List TableDef) (indexes : List IndexDef) : Type 0 where
  pub schema : Catalog
  pub this : SpellsThis payload next schema
  pub tables : defs_of schema ≡ defs
  pub indexed : indexes_of schema ≡ indexes

-- ---- parts of a payload

-- a table with its indexes
abbrev pub listing : TableDef × List IndexDef → Listing
listing x = record { def = x.0; indexes = x.1 }

-- so many indexes of a table, numbered from 1
pub record AreIndexes (def : TableDef) (count : ℕ) (indexes : List IndexDef) : Type 0 where
  pub many : length indexes ≡ count
  pub each : AllByRecursion IsEncodableIndex indexes
  pub numbered : are_numbered def 1 indexes ≡ true

-- a table with its indexes, which are numbered from 1
pub record IsSpelledListing (x : Listing) : Type 0 where
  pub encodable : IsEncodableListing x
  pub numbered : are_numbered x.def 1 x.indexes ≡ true

-- so many tables, each with its indexes
pub record AreListings (count : ℕ) (tables : List Listing) : Type 0 where
  pub many : length tables ≡ count
  pub each : AllByRecursion IsSpelledListing tables

-- The bytes begin with so many tables, each with its indexes; these are their definitions, and the rest is behind them.
pub record BeginsListings (count : ℕ) (bytes : List ℕ) (defs : List TableDef) (indexes : List IndexDef) (rest : List ℕ) : Type 0 where
  pub tables : List Listing
  pub begins : Begins (flat_map listing_bytes) (AreListings count) bytes tables rest
  pub defs_are : map (λ t. t.def) tables ≡ defs
  pub indexes_are : flat_map (λ t. t.indexes) tables ≡ indexes

-- The bytes begin with a table and its indexes, which are added to those before, and the rest is behind them.
pub record AddsListing (bytes rest : List ℕ) (old_defs new_defs : List TableDef) (old_indexes new_indexes : List IndexDef) : Type 0 where
  pub it : Listing
  pub begins : Begins listing_bytes IsSpelledListing bytes it rest
  pub defs_are : new_defs ≡ old_defs ++ it.def ∷ []
  pub indexes_are : new_indexes ≡ old_indexes ++ it.indexes

-- how many indexes at the front are of the table
abbrev pub leading : ℕ → List IndexDef → ℕ
leading table [] = 0
leading table (index ∷ indexes) = if index.table == table then suc (leading table indexes) else 0

-- Each list of the definitions is short enough to be written.
pub record IsWritableListing (def : TableDef) (indexes : List IndexDef) : Type 0 where
  pub table : IsWritableTable def
  pub few : length indexes < 256
  pub each : AllByRecursion IsWritableIndex indexes
