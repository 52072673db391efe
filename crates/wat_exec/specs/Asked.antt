-- What a change asks, over what a source stands for.
use Rattle.std.specs.Prelude.{◌≡◌, ℕ, true, false, List, [], ◌⊎◌, Option, Some, None}
use Rattle.wat_list.specs.Has.{Has}
use Rattle.wat_value.specs.declared.value.Value.{Value}
use Rattle.wat_value.specs.declared.bound.Bound.TheVariants.{Excluding}
use Rattle.wat_value.specs.declared.change.Change.{Change}
use Rattle.wat_value.specs.Changes.{changed_row, row_before, row_after}
use Rattle.wat_schema.specs.Catalog.{Listing}
use Rattle.wat_schema.specs.Tables.{Row}
use Rattle.wat_isolation.specs.Naming.{is_indexed}
use Rattle.wat_locks.specs.declared.want.Want.{Want}
use Rattle.wat_level.specs.declared.change.Spot.{Spot}
use Rattle.wat_level.specs.Change.{change_wants}
use Rattle.wat_protocol.specs.Moves.{left_key, entered_key, index_of}
use Rattle.wat_visits.specs.Sourced.{Sourced, IsFirstIn}

-- A spot is right: the keys are those that the change moves in its index, and the successor is the first position past the key that is come to,
-- in all that the source tells. Whether Phantom is inherited can't be seen here, and isn't said.
pub record IsSpot (Tells : Sourced → Type 0) (l : Listing) (change : Change) (spot : Spot) : Type 0 where
  pub leaves : spot.leaves ≡ left_key l spot.index (row_before change) (row_after change)
  pub enters : spot.enters ≡ entered_key l spot.index (row_before change) (row_after change)
  pub successor : (s : Sourced) → Tells s → (key : List Value) → spot.enters ≡ Some key → IsFirstIn s (index_of change spot) (Excluding key) spot.successor
  pub inherits : spot.inherits ≡ false

-- the change moves this key in the index
abbrev pub Moves : Listing → Change → ℕ → List Value → Type 0
Moves l change index key = (left_key l index (row_before change) (row_after change) ≡ Some key) ⊎ (entered_key l index (row_before change) (row_after change) ≡ Some key)

-- each spot is right, and there is one for each index in which the change moves a key
pub record AreSpots (Tells : Sourced → Type 0) (l : Listing) (change : Change) (spots : List Spot) : Type 0 where
  pub right : (spot : Spot) → Has spot spots → IsSpot Tells l change spot
  pub each : (index : ℕ) (key : List Value) → is_indexed l index ≡ true → Moves l change index key → (spot : Spot) × Has spot spots × (spot.index ≡ index)

-- What is asked of a change, where this row stands under the key of a row to be inserted: what the keys want that it moves, or where a row stands
-- already, Write on that alone.
pub record IsAsked (Tells : Sourced → Type 0) (l : Listing) (change : Change) (standing : Option Row) (wants : List Want) : Type 0 where
  pub spots : List Spot
  pub wants_are : wants ≡ change_wants l.def change spots
  pub free : standing ≡ None → AreSpots Tells l change spots
  pub taken : (row : Row) → standing ≡ Some row → spots ≡ []
  pub stands : (s : Sourced) → Tells s → row_before change ≡ None → standing ≡ s.rows (changed_row l.def change)
  pub no_insert : (before : Row) → row_before change ≡ Some before → standing ≡ None
