-- The changes of connections, as they are kept: of each connection that has some.
use Rattle.std.specs.Prelude.{◌≢◌, ℕ, ◌<◌, ◌^◌, List, [], length}
use Rattle.std.specs.List.{AllByRecursion}
use Rattle.std.specs.List.Sorted.{IsStrictlySortedBy}
use Rattle.std.specs.Ordering.{nat_cmp}
use Rattle.std.specs.Map.{keys_of}
use Rattle.wat_value.specs.declared.change.Change.{Change}
use Rattle.wat_log_record.specs.Encoding.{IsWritableChange}
pub use Rattle.wat_spelled.specs.Changes.{lists_of}

-- A connection with changes, each of which can be written.
pub record IsOpen (entry : ℕ × List Change) : Type 0 where
  pub conn : entry.0 < 2 ^ 16
  pub some : entry.1 ≢ []
  pub few : length entry.1 < 2 ^ 32
  pub writable : AllByRecursion IsWritableChange entry.1

-- Each has changes, and the connections ascend.
pub record AreOpen (entries : List (ℕ × List Change)) : Type 0 where
  pub each : AllByRecursion IsOpen entries
  pub ascend : IsStrictlySortedBy nat_cmp (keys_of entries)
