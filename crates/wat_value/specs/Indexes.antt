-- The keys of rows in the indexes of their table.
use Rattle.std.specs.Prelude.{ℕ, zero, suc, ◌==◌, List, [], ◌∷◌, ◌++◌, map}
use Rattle.std.specs.List.{find}
use Rattle.std.specs.Option.{option_map_or}
use Rattle.sqlite_keyed.specs.Lists.{sort_by}
use Rattle.wat_value.specs.declared.value.Value.{Value}
use Rattle.wat_value.specs.declared.definition.TableDef.{TableDef}
use Rattle.wat_value.specs.declared.definition.IndexDef.{IndexDef}
use Rattle.wat_value.specs.Fits.{values_in}
use Rattle.wat_value.specs.Order.{key_cmp}

-- an index's own columns; index 0 is the table's primary key and has no others
abbrev pub index_columns : List IndexDef → ℕ → List ℕ
index_columns indexes zero = []
index_columns indexes (suc n) = option_map_or (λ index. index.columns) (find (λ index. suc n == index.number) indexes) []

-- the columns of an index's keys: its own, followed by those of the primary key
abbrev pub key_columns : TableDef → List IndexDef → ℕ → List ℕ
key_columns def indexes index = index_columns indexes index ++ def.key

-- the numbers of a table's indexes, the primary key's first
abbrev pub index_numbers : List IndexDef → List ℕ
index_numbers indexes = 0 ∷ map (λ index. index.number) indexes

-- the key of a row in an index
abbrev pub index_key : TableDef → List IndexDef → ℕ → List Value → List Value
index_key def indexes index row = values_in row (key_columns def indexes index)

-- the keys of rows in an index, in order
abbrev pub index_keys : TableDef → List IndexDef → ℕ → List (List Value) → List (List Value)
index_keys def indexes index rows = sort_by key_cmp (map (index_key def indexes index) rows)
