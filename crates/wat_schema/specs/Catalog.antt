-- What a schema is seen as, and how it is searched.
use Rattle.std.specs.Prelude.{ℕ, ◌==◌, nat_lt, nat_le, Bool, true, false, ◌&&◌, ◌||◌, List, [], ◌∷◌, map, Option}
use Rattle.std.specs.List.{find, list_any, position}
use Rattle.std.specs.Option.{option_map, option_and_then}
use Rattle.std.specs.Str.{bytes_eq}
use Rattle.wat_value.specs.declared.definition.TableDef.{TableDef}
use Rattle.wat_value.specs.declared.definition.IndexDef.{IndexDef}

abbrev pub Name : Type 0
Name = List ℕ

-- a table's definition and its indexes
pub record Listing : Type 0 where
  pub def : TableDef
  pub indexes : List IndexDef

-- the tables by number, and the next table number
pub record Catalog : Type 0 where
  pub tables : List Listing
  pub next : ℕ

abbrev pub empty_catalog : Catalog
empty_catalog = record { tables = []; next = 1 }

abbrev pub has_number : ℕ → Listing → Bool
has_number number t = number == t.def.number

abbrev pub has_name : Name → Listing → Bool
has_name name t = bytes_eq name t.def.name

abbrev pub listing_at : Catalog → ℕ → Option Listing
listing_at c number = find (has_number number) c.tables

abbrev pub listing_named : Catalog → Name → Option Listing
listing_named c name = find (has_name name) c.tables

-- the number of the table with the name
abbrev pub table_named : Catalog → Name → Option ℕ
table_named c name = option_map (λ t. t.def.number) (listing_named c name)

abbrev pub def_at : Catalog → ℕ → Option TableDef
def_at c number = option_map (λ t. t.def) (listing_at c number)

-- the number of a column, from 0
abbrev pub ordinal : TableDef → Name → Option ℕ
ordinal def name = position (λ column. bytes_eq name column.name) def.columns

abbrev pub column_at : Catalog → ℕ → Name → Option ℕ
column_at c number name = option_and_then (λ def. ordinal def name) (def_at c number)

abbrev pub index_of : Listing → ℕ → Option IndexDef
index_of t number = find (λ index. number == index.number) t.indexes

abbrev pub index_at : Catalog → ℕ → ℕ → Option IndexDef
index_at c table number = option_and_then (λ t. index_of t number) (listing_at c table)

-- an index of the table has the name
abbrev pub has_index : Name → Listing → Bool
has_index name t = list_any (λ index. bytes_eq name index.name) t.indexes

-- an index of any table has it
abbrev pub has_index_named : Catalog → Name → Bool
has_index_named c name = list_any (has_index name) c.tables

-- the numbers ascend, above the lower one and below the upper
abbrev pub ascend : ℕ → List ℕ → ℕ → Bool
ascend low [] high = true
ascend low (n ∷ ns) high = nat_lt low n && nat_lt n high && ascend n ns high

abbrev pub numbers_of : List Listing → List ℕ
numbers_of tables = map (λ t. t.def.number) tables

abbrev pub names_of : List Listing → List Name
names_of tables = map (λ t. t.def.name) tables

-- The tables stand in the order of their numbers, which are at least 1 and below the next.
abbrev pub in_order : Catalog → Bool
in_order c = nat_le 1 c.next && ascend 0 (numbers_of c.tables) c.next

-- an item is the same as a later one
abbrev pub repeats : {X : Type 0} → (X → X → Bool) → List X → Bool
repeats same [] = false
repeats same (x ∷ xs) = list_any (λ y. same y x) xs || repeats same xs
