-- The connections of a state, as a list.
use Rattle.std.specs.Prelude.{◌≡◌, ℕ, zero, suc, List, length, slice_get, Option, None, unwrap_or}
use Rattle.std.specs.List.{filter_map, range_with_len}
use Rattle.std.specs.Option.{option_map}
use Rattle.wat_locks.specs.declared.held.Held.{Held}
use Rattle.wat_cycle.specs.declared.request.Request.{Request}
use Rattle.wat_steps.specs.Fresh.{connection_with}
use Rattle.wat_steps.specs.State.{ConnectionState, CoreState}

-- the connection of this number, which counts from 1; any other one has ended
abbrev pub connection_of : List ConnectionState → ℕ → ConnectionState
connection_of states zero = connection_with None
connection_of states (suc i) = unwrap_or (slice_get states i) (connection_with None)

-- what the connection of this number waits for
abbrev pub request_in : ℕ → ConnectionState → Option Request
request_in c k = option_map (λ wants. record { conn = c; wants = wants }) k.request

-- the requests of those that wait
abbrev pub requests_in : List ConnectionState → List Request
requests_in states = filter_map (λ c. request_in c (connection_of states c)) (range_with_len 1 (length states))

-- the connections of the state are these, and so are its locks
pub record HasParts (e : CoreState) (states : List ConnectionState) (locks : List Held) : Type 0 where
  pub count : e.count ≡ length states
  pub connections : (c : ℕ) → e.connections c ≡ connection_of states c
  pub held : e.held ≡ locks
