-- Which keys that a change comes to inherit Phantom.
use Rattle.std.specs.Prelude.{◌≡◌, ◌↔◌, ℕ, true, List, [], ◌∷◌}
use Rattle.wat_locks.specs.declared.held.Held.{Held}
use Rattle.wat_locks.specs.Held.{Holds}
use Rattle.wat_level.specs.declared.change.Spot.{Spot}
use Rattle.wat_level.specs.Wanted.{phantom_lock}

-- the same spot, which inherits where the connection holds Phantom on its successor
pub record IsInheriting (held : List Held) (conn table : ℕ) (spot after : Spot) : Type 0 where
  pub same : after ≡ record spot { inherits = after.inherits }
  pub inherits : (after.inherits ≡ true) ↔ Holds held conn (phantom_lock table spot.index spot.successor)

-- each of them, in their order
abbrev pub AreInheriting : List Held → ℕ → ℕ → List Spot → List Spot → Type 0
AreInheriting held conn table [] after = after ≡ []
AreInheriting held conn table (spot ∷ spots) after = (first : Spot) × (more : List Spot) × (after ≡ first ∷ more) × IsInheriting held conn table spot first × AreInheriting held conn table spots more
