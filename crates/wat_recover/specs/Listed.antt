-- The lists of a machine.
use Rattle.std.specs.Prelude.{◌≡◌, ◌≢◌, ◌<◌, ◌≤◌, ℕ, suc, ◌==◌, List, [], map, length, drop, slice_get, Option, Some, None}
use Rattle.std.specs.List.{filter}
use Rattle.wat_replay.specs.State.{Lists}
use Rattle.wat_recover.specs.declared.change_lists.Standing.{Standing}

-- the changes of each connection, in their order
abbrev pub lists_of : List Standing → Lists
lists_of standing conn = map (λ s. s.change) (filter (λ s. conn == s.conn) standing)

-- The connection's last change stands at this place: none of its changes is behind it.
pub record IsLastOf (standing : List Standing) (conn i : ℕ) : Type 0 where
  pub within : i < length standing
  pub last : Standing
  pub there : slice_get standing i ≡ Some last
  pub own : last.conn ≡ conn
  pub none : lists_of (drop (suc i) standing) conn ≡ []

-- The least connection from that number on whose list is not empty; none where all of them are empty.
abbrev pub IsLeastFrom : ℕ → Lists → Option ℕ → Type 0
IsLeastFrom from lists None = (other : ℕ) → from ≤ other → lists other ≡ []
IsLeastFrom from lists (Some conn) = (from ≤ conn) × (lists conn ≢ []) × ((other : ℕ) → from ≤ other → other < conn → lists other ≡ [])

-- the number is below the least one so far, where there is one
abbrev pub IsBefore : ℕ → Option ℕ → Type 0
IsBefore conn None = Unit {0}
IsBefore conn (Some least) = conn < least

abbrev pub IsNotBefore : ℕ → Option ℕ → Type 0
IsNotBefore conn None = ⊥
IsNotBefore conn (Some least) = least ≤ conn
