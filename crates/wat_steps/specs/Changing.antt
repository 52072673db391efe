-- What changes of rows make of the tables and of the vacant keys.
use Rattle.std.specs.Prelude.{ℕ, List, [], ◌∷◌, ◌++◌, map, reverse, Option, Some, None}
use Rattle.std.specs.List.{flat_map, fold}
use Rattle.wat_value.specs.declared.value.Value.{Value}
use Rattle.wat_value.specs.declared.change.Change.{Change}
use Rattle.wat_value.specs.Changes.{changed_table, row_before, row_after}
use Rattle.wat_value.specs.Indexes.{index_numbers}
use Rattle.wat_schema.specs.Catalog.{Catalog, Listing, listing_at}
use Rattle.wat_schema.specs.Tables.{inverse}
use Rattle.wat_isolation.specs.Sql.{IndexName}
use Rattle.wat_meaning.specs.Meaning.{after_change}
use Rattle.wat_protocol.specs.Moves.{left_key}
use Rattle.wat_steps.specs.State.{VacantKey, CoreState, schema_of}

abbrev pub index_in : Change → ℕ → IndexName
index_in change index = record { table = changed_table change; index = index }

abbrev pub noted : ℕ → IndexName → Option (List Value) → List VacantKey
noted c i None = []
noted c i (Some key) = record { conn = c; index = i; key = key } ∷ []

-- the keys that the change leaves in the indexes of its table
abbrev pub left_in : ℕ → Change → Option Listing → List VacantKey
left_in c change None = []
left_in c change (Some l) = flat_map (λ index. noted c (index_in change index) (left_key l index (row_before change) (row_after change))) (index_numbers l.indexes)

abbrev pub left_by : Catalog → ℕ → Change → List VacantKey
left_by schema c change = left_in c change (listing_at schema (changed_table change))

-- the change is made, and the keys that it leaves are vacant
abbrev pub made : ℕ → CoreState → Change → CoreState
made c e change = record e { now = after_change e.now change; vacant = e.vacant ++ left_by (schema_of e) c change }

-- changes are undone, the last one first
abbrev pub undone : ℕ → List Change → CoreState → CoreState
undone c changes e = fold (made c) e (map inverse (reverse changes))
