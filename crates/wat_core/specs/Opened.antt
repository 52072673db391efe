-- Connections with a transaction open.
use Rattle.std.specs.Prelude.{◌≡◌, ℕ, ◌≤◌, ◌<◌, Bool, true, false, is_some, List, length}
use Rattle.wat_steps.specs.State.{ConnectionState}
use Rattle.wat_core.specs.Parts.{connection_of}

abbrev pub is_open : List ConnectionState → ℕ → Bool
is_open states d = is_some (connection_of states d).transaction

-- none up to this number
abbrev pub NoneOpen : List ConnectionState → ℕ → Type 0
NoneOpen states most = (d : ℕ) → 1 ≤ d → d ≤ most → is_open states d ≡ false

-- the first one that has
pub record IsFirstOpen (states : List ConnectionState) (d : ℕ) : Type 0 where
  pub from_one : 1 ≤ d
  pub within : d ≤ length states
  pub open_here : is_open states d ≡ true
  pub none_before : (other : ℕ) → 1 ≤ other → other < d → is_open states other ≡ false
