-- The connections and the locks of a state.
use Rattle.std.specs.Prelude.{◌≡◌, ℕ, List, length}
use Rattle.wat_list.specs.Has.{HasSame}
use Rattle.wat_locks.specs.declared.held.Held.{Held}
use Rattle.wat_steps.specs.State.{ConnectionState, CoreState}
use Rattle.wat_core.specs.Parts.{connection_of}

-- the connections from number 1 on, and the locks of all
pub record CoreParts : Type 0 where
  pub states : List ConnectionState
  pub held : List Held

-- the state has these connections and these locks, which stand in any order
pub record HasCore (e : CoreState) (parts : CoreParts) : Type 0 where
  pub count : e.count ≡ length parts.states
  pub connections : (c : ℕ) → e.connections c ≡ connection_of parts.states c
  pub held : HasSame parts.held e.held
