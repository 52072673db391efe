-- The keys that a change moves in the indexes of its table.
use Rattle.std.specs.Prelude.{◌≡◌, ℕ, ◌==◌, true, if◌then◌else◌, List, ◌⊎◌, Option, None, Some}
use Rattle.std.specs.List.{find}
use Rattle.std.specs.Option.{option_map_or}
use Rattle.wat_list.specs.Has.{Has}
use Rattle.wat_value.specs.declared.value.Value.{Value}
use Rattle.wat_value.specs.declared.change.Change.{Change}
use Rattle.wat_value.specs.Changes.{changed_table, changed_row, row_before, row_after}
use Rattle.wat_value.specs.Fits.{key_of}
use Rattle.wat_value.specs.Indexes.{index_key}
use Rattle.wat_schema.specs.Catalog.{Catalog, Listing, listing_at}
use Rattle.wat_isolation.specs.Rows.{upto}
use Rattle.wat_isolation.specs.Machine as machine
use Rattle.wat_isolation.specs.Sql.{sql, IndexName}
use Rattle.wat_isolation.specs.Naming.{scheme_of, is_indexed, same_key}
use Rattle.wat_level.specs.declared.change.Spot.{Spot}
use Rattle.wat_protocol.specs.Locked.{position_of}

-- The change is of a row of the table with this listing, which stands as the change finds it, and keeps its primary key.
pub record IsChangeOf (s : machine.State sql) (c : Catalog) (l : Listing) (change : Change) : Type 0 where
  pub scheme : s.scheme ≡ scheme_of c
  pub listing : listing_at c (changed_table change) ≡ Some l
  pub now : s.now (changed_row l.def change) ≡ row_before change
  pub key : (row : List Value) → row_after change ≡ Some row → key_of l.def row ≡ (changed_row l.def change).key

-- the key that a row leaves in an index, where it had one and comes to another or to none
abbrev pub left_key : Listing → ℕ → Option (List Value) → Option (List Value) → Option (List Value)
left_key l index None after = None
left_key l index (Some before) None = Some (index_key l.def l.indexes index before)
left_key l index (Some before) (Some after) =
    if same_key (index_key l.def l.indexes index before) (index_key l.def l.indexes index after) then None else Some (index_key l.def l.indexes index before)

-- the key that it comes to
abbrev pub entered_key : Listing → ℕ → Option (List Value) → Option (List Value) → Option (List Value)
entered_key l index before after = left_key l index after before

abbrev pub index_of : Change → Spot → IndexName
index_of change spot = record { table = changed_table change; index = spot.index }

-- A spot is right: the keys are those that the change moves in its index, the successor is the first position past the key that is come to,
-- and Phantom is inherited where the connection holds it on the successor.
pub record IsSpot (s : machine.State sql) (c : ℕ) (l : Listing) (change : Change) (spot : Spot) : Type 0 where
  pub leaves : spot.leaves ≡ left_key l spot.index (row_before change) (row_after change)
  pub enters : spot.enters ≡ entered_key l spot.index (row_before change) (row_after change)
  pub successor : (key : List Value) → spot.enters ≡ Some key → machine.IsFirst sql s (index_of change spot) (upto sql key) (position_of spot.successor)
  pub inherits : Has (machine.Lock.Phantom (index_of change spot) (position_of spot.successor)) (s.conns c).locks → spot.inherits ≡ true

-- each spot is right, and there is one for each index in which the change moves a key
pub record AreSpots (s : machine.State sql) (c : ℕ) (l : Listing) (change : Change) (spots : List Spot) : Type 0 where
  pub right : (spot : Spot) → Has spot spots → IsSpot s c l change spot
  pub each : (index : ℕ) (key : List Value) → is_indexed l index ≡ true
      → (left_key l index (row_before change) (row_after change) ≡ Some key) ⊎ (entered_key l index (row_before change) (row_after change) ≡ Some key)
      → (spot : Spot) × Has spot spots × (spot.index ≡ index)

-- the successor that the spot of an index tells
abbrev pub next_in : List Spot → IndexName → machine.Place sql
next_in spots i = option_map_or (λ spot. position_of spot.successor) (find (λ spot. spot.index == i.index) spots) machine.Place.End
