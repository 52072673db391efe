-- What a change of a row wants.
use Rattle.std.specs.Prelude.{ℕ, Bool, if◌then◌else◌, List, [], ◌∷◌, ◌++◌, Option, None, Some}
use Rattle.std.specs.List.{flat_map}
use Rattle.wat_value.specs.declared.value.Value.{Value}
use Rattle.wat_value.specs.declared.place.Place.TheVariants.{At}
use Rattle.wat_value.specs.declared.change.Change.{Change}
use Rattle.wat_value.specs.declared.definition.TableDef.{TableDef}
use Rattle.wat_value.specs.Changes.{changed_row, changed_table}
use Rattle.wat_locks.specs.declared.want.Want.{Want}
use Rattle.wat_level.specs.declared.change.Spot.{Spot}
use Rattle.wat_level.specs.Wanted.{write_lock, phantom_lock, anti_phantom_lock, long_want, in_order}

-- AntiPhantom on the key that is left
abbrev pub left_wants : ℕ → ℕ → Option (List Value) → List Want
left_wants table index None = []
left_wants table index (Some key) = long_want (anti_phantom_lock table index (At key)) ∷ []

-- Phantom on the key that is come to, where it is inherited from the successor
abbrev pub inherited_wants : ℕ → ℕ → Bool → List Value → List Want
inherited_wants table index inherits key = if inherits then long_want (phantom_lock table index (At key)) ∷ [] else []

-- AntiPhantom on the key that is come to and on its successor
abbrev pub entered_wants : ℕ → Spot → Option (List Value) → List Want
entered_wants table spot None = []
entered_wants table spot (Some key) =
    inherited_wants table spot.index spot.inherits key ++ long_want (anti_phantom_lock table spot.index (At key)) ∷ long_want (anti_phantom_lock table spot.index spot.successor) ∷ []

-- what the change asks in one index
abbrev pub spot_wants : ℕ → Spot → List Want
spot_wants table spot = left_wants table spot.index spot.leaves ++ entered_wants table spot spot.enters

-- Write on the row, and what each index asks
abbrev pub asked_wants : TableDef → Change → List Spot → List Want
asked_wants def change spots =
    long_want (write_lock (changed_table change) (changed_row def change).key) ∷ flat_map (spot_wants (changed_table change)) spots

-- that, in the order of locks
abbrev pub change_wants : TableDef → Change → List Spot → List Want
change_wants def change spots = in_order (asked_wants def change spots)
