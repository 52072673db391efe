-- A state of the log: the tables, and the changes of each connection that stand.
use Rattle.std.specs.Prelude.{◌≡◌, ◌≢◌, ℕ, zero, suc, ◌==◌, Bool, true, not, List, [], ◌∷◌, Option, Some, IsSome, if◌then◌else◌}
use Rattle.std.specs.List.{list_all, list_any}
use Rattle.std.specs.Option.{option_and_then}
use Rattle.wat_value.specs.declared.change.Change.{Change}
use Rattle.wat_schema.specs.Catalog.{Catalog}
use Rattle.wat_schema.specs.Changes.{are_of_one_row}
use Rattle.wat_schema.specs.Tables.{IsTables, Tables, apply_change, catalog_of, inverse, no_tables}

-- the changes of each connection, in their order
abbrev pub Lists : Type 0
Lists = ℕ → List Change

pub record State : Type 0 where
  pub tables : Tables
  pub lists : Lists

abbrev pub no_lists : Lists
no_lists conn = []

abbrev pub empty_state : State
empty_state = record { tables = no_tables; lists = no_lists }

-- one connection has this list, and the others have theirs
abbrev pub with_list : ℕ → List Change → Lists → Lists
with_list conn list lists other = if conn == other then list else lists other

-- the tables with these changes undone, the last of them first
abbrev pub undo : List Change → Tables → Option Tables
undo [] t = Some t
undo (change ∷ changes) t = option_and_then (apply_change (inverse change)) (undo changes t)

-- the tables with the lists of the connections below n undone, in order of connection
abbrev pub undo_below : ℕ → Lists → Tables → Option Tables
undo_below zero lists t = Some t
undo_below (suc n) lists t = option_and_then (undo (lists n)) (undo_below n lists t)

-- the numbers of connections are below this one
unfoldable pub connections : ℕ
connections = 65536

-- the tables with all lists undone
abbrev pub undone : State → Option Tables
undone s = undo_below connections s.lists s.tables

-- one of these changes is of the row that a change is of
abbrev pub changes_row_of : Catalog → Change → List Change → Bool
changes_row_of c change changes = list_any (are_of_one_row c change) changes

-- no change of the one list is of a row that the other changes
abbrev pub are_apart : Catalog → List Change → List Change → Bool
are_apart c list other = list_all (λ change. not (changes_row_of c change other)) list

-- The tables are those of a database, no row is changed by two connections, and all lists can be undone.
pub record IsLawful (s : State) : Type 0 where
  pub tables : IsTables s.tables
  pub apart : (a b : ℕ) → a ≢ b → are_apart (catalog_of s.tables) (s.lists a) (s.lists b) ≡ true
  pub undoes : IsSome (undone s)
