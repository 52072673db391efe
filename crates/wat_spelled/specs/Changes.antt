-- The changes of each connection that stand, as a payload.
use Rattle.std.specs.Prelude.{◌≡◌, ◌≢◌, ℕ, nat_eq, List, [], ◌∷◌, ◌++◌, length, unwrap_or}
use Rattle.std.specs.List.{flat_map, AllByRecursion}
use Rattle.std.specs.List.Sorted.{IsStrictlySortedBy}
use Rattle.std.specs.Ordering.{nat_cmp}
use Rattle.std.specs.Map.{lookup, keys_of}
use Rattle.wat_value.specs.declared.change.Change.{Change}
use Rattle.wat_value.specs.Encoding.{count_bytes}
use Rattle.wat_log_record.specs.Encoding.{number_bytes, change_bytes, IsCount, IsNumber, IsEncodableChange}
use Rattle.wat_replay.specs.State.{Lists, no_lists}

-- the list of each connection, and none where it has no entry
abbrev pub lists_of : List (ℕ × List Change) → Lists
lists_of entries conn = unwrap_or (lookup (nat_eq conn) entries) []

-- a connection with its changes, the oldest first: its number, how many they are, and these
abbrev pub entry_bytes : ℕ × List Change → List ℕ
entry_bytes entry = count_bytes entry.0 ++ (number_bytes (length entry.1) ++ flat_map change_bytes entry.1)

-- how many connections, and each with its changes
abbrev pub rollback_bytes : List (ℕ × List Change) → List ℕ
rollback_bytes entries = count_bytes (length entries) ++ flat_map entry_bytes entries

-- the payload of a chain: no bytes where no connection has changes, and then there is no chain
abbrev pub payload_of : List (ℕ × List Change) → List ℕ
payload_of [] = []
payload_of (entry ∷ entries) = rollback_bytes (entry ∷ entries)

pub record IsEncodableEntry (entry : ℕ × List Change) : Type 0 where
  pub conn : IsCount entry.0
  pub few : IsNumber (length entry.1)
  pub each : AllByRecursion IsEncodableChange entry.1

-- The connections ascend, and each can be spelled.
pub record AreEntries (entries : List (ℕ × List Change)) : Type 0 where
  pub few : IsCount (length entries)
  pub each : AllByRecursion IsEncodableEntry entries
  pub ascend : IsStrictlySortedBy nat_cmp (keys_of entries)

-- The payload spells these lists. A connection in it may have no change.
pub record SpellsLists (payload : List ℕ) (lists : Lists) : Type 0 where
  pub entries : List (ℕ × List Change)
  pub are : AreEntries entries
  pub bytes : payload ≡ rollback_bytes entries
  pub lists_are : lists ≡ lists_of entries

-- The payload of a chain tells these lists: none where there is no chain, and else those that it spells.
pub record TellsLists (first : ℕ) (payload : List ℕ) (lists : Lists) : Type 0 where
  pub none : first ≡ 0 → lists ≡ no_lists
  pub some : first ≢ 0 → SpellsLists payload lists
