-- A change of a row.
use Rattle.std.specs.Prelude.{◌≡◌, ◌↔◌, ℕ, Bool, true, false, ◌||◌, is_some, List, [], ◌∷◌, ◌⊎◌, Option, Some, None}
use Rattle.wat_value.specs.declared.value.Value.{Value}
use Rattle.wat_value.specs.declared.bound.Bound.TheVariants.{Excluding}
use Rattle.wat_value.specs.declared.change.Change.{Change}
use Rattle.wat_value.specs.declared.change.Change.TheVariants as change
use Rattle.wat_value.specs.Changes.{changed_row, changed_table, row_before, row_after}
use Rattle.wat_value.specs.Indexes.{index_numbers}
use Rattle.wat_schema.specs.declared.refusal.Refusal.TheVariants.{Duplicate}
use Rattle.wat_schema.specs.Catalog.{Listing, listing_at}
use Rattle.wat_schema.specs.Tables.{Row}
use Rattle.wat_locks.specs.Held.{Holds}
use Rattle.wat_level.specs.declared.change.Spot.{Spot}
use Rattle.wat_level.specs.Change.{change_wants}
use Rattle.wat_level.specs.Wanted.{phantom_lock}
use Rattle.wat_protocol.specs.Moves.{left_key, entered_key}
use Rattle.wat_conn.specs.declared.answer.Answer.TheVariants.{Refused}
use Rattle.wat_scans.specs.Look.{look}
use Rattle.wat_scans.specs.Running.{Run, after_change}
use Rattle.wat_steps.specs.State.{CoreState, Progressed, Progressed.Moved, Progressed.Answered, schema_of, IsFirstFrom}
use Rattle.wat_steps.specs.Changing.{index_in, made}
use Rattle.wat_steps.specs.Answering.{IsSame}
use Rattle.wat_steps.specs.Asking.{refused, Asks, with_locks, going_on}

-- what the change does in an index: the keys that it leaves and comes to, the first position past the latter, and whether Phantom is held there
pub record IsSpot (e : CoreState) (c : ℕ) (l : Listing) (ch : Change) (index : ℕ) (spot : Spot) : Type 0 where
  pub number : spot.index ≡ index
  pub leaves : spot.leaves ≡ left_key l index (row_before ch) (row_after ch)
  pub enters : spot.enters ≡ entered_key l index (row_before ch) (row_after ch)
  pub successor : (key : List Value) → spot.enters ≡ Some key → IsFirstFrom e (index_in ch index) (Excluding key) spot.successor
  pub inherits : (spot.inherits ≡ true) ↔ Holds e.held c (phantom_lock (changed_table ch) index spot.successor)

-- the change leaves a key in the index, or comes to one
abbrev pub moves_key : Listing → Change → ℕ → Bool
moves_key l ch index = is_some (left_key l index (row_before ch) (row_after ch)) || is_some (entered_key l index (row_before ch) (row_after ch))

-- one for each of these indexes where it does
abbrev pub AreSpots : CoreState → ℕ → Listing → Change → List ℕ → List Spot → Type 0
AreSpots e c l ch [] spots = spots ≡ []
AreSpots e c l ch (index ∷ more) spots =
    ((moves_key l ch index ≡ true) × (spot : Spot) × (rest : List Spot) × (spots ≡ spot ∷ rest) × IsSpot e c l ch index spot × AreSpots e c l ch more rest)
    ⊎ ((moves_key l ch index ≡ false) × AreSpots e c l ch more spots)

-- the row that stands under the key of a row to be inserted
abbrev pub standing_row : CoreState → Listing → Change → Option Row
standing_row e l (change.Insert table row) = look e.now (changed_row l.def (change.Insert table row))
standing_row e l (change.Update table before after) = None
standing_row e l (change.Delete table before) = None

-- the change is made, with these locks
abbrev pub changed : ℕ → CoreState → Run → Listing → Change → List Spot → CoreState
changed c e run l ch spots = going_on c (after_change run ch) (made c (with_locks c (change_wants l.def ch spots) e) ch)

-- the row's key is taken
abbrev pub duplicate : ℕ → CoreState → Run → Listing → Change → CoreState
duplicate c e run l ch = refused c (with_locks c (change_wants l.def ch []) e) run (Refused (Duplicate (changed_row l.def ch).key))

-- Where the key is taken, Write on the row alone is asked.
abbrev pub IsChangeAt : ℕ → CoreState → Run → Change → Listing → Option Row → Progressed → CoreState → Type 0
IsChangeAt c e run ch l None a after =
    (spots : List Spot) × AreSpots e c l ch (index_numbers l.indexes) spots
    × Asks c e run (change_wants l.def ch spots) (λ b later. (b ≡ Moved) × IsSame (changed c e run l ch spots) later) a after
IsChangeAt c e run ch l (Some row) a after = Asks c e run (change_wants l.def ch []) (λ b later. (b ≡ Answered) × IsSame (duplicate c e run l ch) later) a after

abbrev pub IsChange : ℕ → CoreState → Run → Change → Progressed → CoreState → Type 0
IsChange c e run ch a after = (l : Listing) × (listing_at (schema_of e) (changed_table ch) ≡ Some l) × IsChangeAt c e run ch l (standing_row e l ch) a after
