-- The changes of the open transaction, with the bytes of their records.
use Rattle.std.specs.Prelude.{◌≡◌, ◌≤◌, ℕ, Bool, nat_le, List, map, length, Option, Some, None}
use Rattle.std.specs.List.{filter_map, AllByRecursion}
use Rattle.wat_value.specs.declared.change.Change.{Change}
use Rattle.wat_value.specs.declared.change.Act.{Act}
use Rattle.wat_value.specs.declared.change.Act.TheVariants.{OnRow, OnSchema}
use Rattle.wat_log_record.specs.Encoding.{IsEncodableRecord, IsWritableChange, IsWritableSchema}
use Rattle.wat_commit_log.specs.Logged.{bytes_of, changed}

-- the records of the changes take at most so many bytes, so that a frame takes the Commit too
abbrev pub most_bytes : ℕ
most_bytes = 1999997

-- the bytes of the records of these changes
abbrev pub changes_bytes : List Change → List ℕ
changes_bytes changes = bytes_of (map changed changes)

-- a frame takes these changes with a Commit
abbrev pub fit : List Change → Bool
fit changes = nat_le (length (changes_bytes changes)) most_bytes

abbrev pub change_in : Act → Option Change
change_in (OnRow change) = Some change
change_in (OnSchema change) = None

-- the changes of rows among these acts
abbrev pub changes_in : List Act → List Change
changes_in acts = filter_map change_in acts

-- the record of the act can be written
abbrev pub IsWritableAct : Act → Type 0
IsWritableAct (OnRow change) = IsWritableChange change
IsWritableAct (OnSchema change) = IsWritableSchema change

-- The bytes are those of the changes, which a frame takes.
pub record AreBytes (changes : List Change) (bytes : List ℕ) : Type 0 where
  pub are : bytes ≡ changes_bytes changes
  pub fit : length bytes ≤ most_bytes
  pub encodable : AllByRecursion IsEncodableRecord (map changed changes)
