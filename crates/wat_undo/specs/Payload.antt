-- The changes to roll back, as a payload.
use Rattle.std.specs.Prelude.{◌≡◌, ◌≢◌, ◌⊎◌, ℕ, List, [], length}
use Rattle.std.specs.List.{flat_map, AllByRecursion}
use Rattle.std.specs.List.Sorted.{IsStrictlySortedBy}
use Rattle.std.specs.Ordering.{nat_cmp}
use Rattle.std.specs.Map.{keys_of}
use Rattle.wat_value.specs.declared.change.Change.{Change}
use Rattle.wat_log_record.specs.Encoding.{IsEncodableChange}
use Rattle.wat_log_record.specs.Reading.{Begins}
use Rattle.wat_replay.specs.State.{Lists}
use Rattle.wat_book.specs.Chains.{IsReadChain, BreaksAt, HoldsBriefly}
use Rattle.wat_book.specs.Book.{Section}
pub use Rattle.wat_spelled.specs.Changes.{lists_of, entry_bytes, rollback_bytes, payload_of, IsEncodableEntry, AreEntries, SpellsLists, TellsLists}

-- so many changes, each of which can be spelled
pub record AreChanges (count : ℕ) (changes : List Change) : Type 0 where
  pub many : length changes ≡ count
  pub each : AllByRecursion IsEncodableChange changes

-- so many entries of ascending connections
pub record AreAscending (count : ℕ) (entries : List (ℕ × List Change)) : Type 0 where
  pub many : length entries ≡ count
  pub each : AllByRecursion IsEncodableEntry entries
  pub ascend : IsStrictlySortedBy nat_cmp (keys_of entries)

-- The bytes begin with so many entries, which are these lists, and the rest is behind them.
pub record BeginsLists (count : ℕ) (bytes : List ℕ) (lists : Lists) (rest : List ℕ) : Type 0 where
  pub entries : List (ℕ × List Change)
  pub begins : Begins (flat_map entry_bytes) (AreAscending count) bytes entries rest
  pub lists_are : lists ≡ lists_of entries

-- The pages of a section are the chain that tells these lists, on as few pages as their payload needs.
pub record HoldsLists (pages : Section) (first : ℕ) (lists : Lists) : Type 0 where
  pub payload : List ℕ
  pub holds : HoldsBriefly pages first payload
  pub tells : TellsLists first payload lists

-- The pages from the first on are a chain that tells these lists.
pub record LoadsLists (pages : Section) (first : ℕ) (lists : Lists) : Type 0 where
  pub list : List ℕ
  pub payload : List ℕ
  pub chain : IsReadChain pages [] first list payload
  pub tells : TellsLists first payload lists

-- The chain tells no lists; it is told of at its first page.
pub record SpellsNone (pages : Section) (first here : ℕ) : Type 0 where
  pub list : List ℕ
  pub payload : List ℕ
  pub chain : IsReadChain pages [] first list payload
  pub place : here ≡ first
  pub some : first ≢ 0
  pub none : (lists : Lists) → SpellsLists payload lists → ⊥

-- Loading fails at this page: the chain breaks there, or it is the first page of one that tells no lists.
abbrev pub FailsToLoad : Section → ℕ → ℕ → Type 0
FailsToLoad pages first here = BreaksAt pages [] first here ⊎ SpellsNone pages first here
