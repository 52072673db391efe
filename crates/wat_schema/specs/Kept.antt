-- What the structs of a schema keep beside the tables that they are seen as.
use Rattle.std.specs.Prelude.{◌≡◌, ◌≤◌, ℕ, ◌==◌, ◌&&◌, Bool, true, List, length, map}
use Rattle.std.specs.List.{list_any, range_with_len}
use Rattle.std.specs.Str.{bytes_eq}
use Rattle.wat_schema.specs.Catalog.{Name, Catalog, Listing, numbers_of, names_of, in_order, has_index}

-- The primary key and the indexes of a table that stands have no more columns than they may, and its index numbers count from 1.
pub record IsListing (t : Listing) : Type 0 where
  pub columns : length t.def.columns ≤ 64
  pub key : length t.def.key ≤ 16
  pub indexes : length t.indexes ≤ 8
  pub numbers : map (λ index. index.number) t.indexes ≡ range_with_len 1 (length t.indexes)

-- what a table is kept with: the names of its columns in their order
pub record IsEntry (t : Listing) (names : List Name) : Type 0 where
  pub limits : IsListing t
  pub columns : names ≡ map (λ column. column.name) t.def.columns

-- what the tables are kept with: their numbers and their names in the same order
pub record IsKept (c : Catalog) (tables : List ℕ) (called : List Name) : Type 0 where
  pub order : in_order c ≡ true
  pub numbers : tables ≡ numbers_of c.tables
  pub names : called ≡ names_of c.tables

-- a name belongs to an index of the table with the number
abbrev pub owned : Name → ℕ → List (Name × ℕ) → Bool
owned name table owners = list_any (λ owner. table == owner.1 && bytes_eq name owner.0) owners

abbrev pub has_index_at : Name → ℕ → List Listing → Bool
has_index_at name table tables = list_any (λ t. table == t.def.number && has_index name t) tables

-- the names of indexes with the numbers of their tables: those of the tables' indexes
pub record IsOwned (owners : List (Name × ℕ)) (tables : List Listing) : Type 0 where
  pub alike : (name : Name) (table : ℕ) → owned name table owners ≡ has_index_at name table tables
