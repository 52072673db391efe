-- What a record makes of a state.
use Rattle.std.specs.Prelude.{◌≡◌, ◌≢◌, ℕ, ◌<◌, ◌≤◌, false, List, [], ◌∷◌, ◌++◌, length, take, drop, Option, Some}
use Rattle.wat_value.specs.declared.change.Act.TheVariants.{OnSchema}
use Rattle.wat_schema.specs.Tables.{Tables, apply, apply_change, catalog_of}
use Rattle.wat_log_record.specs.declared.log_record.LogRecord.{LogRecord}
use Rattle.wat_log_record.specs.declared.log_record.LogRecord.TheVariants.{Changed, UndoTo, Commit, Rollback, Schema}
use Rattle.wat_replay.specs.State.{State, Lists, with_list, undo, changes_row_of, connections, empty_state}

-- the lists after a record
abbrev pub lists_after : LogRecord → Lists → Lists
lists_after (Changed conn change) lists = with_list conn (lists conn ++ change ∷ []) lists
lists_after (UndoTo conn count) lists = with_list conn (take count (lists conn)) lists
lists_after (Commit conn) lists = with_list conn [] lists
lists_after (Rollback conn) lists = with_list conn [] lists
lists_after (Schema change) lists = lists

-- the tables after it
abbrev pub tables_after : LogRecord → State → Option Tables
tables_after (Changed conn change) s = apply_change change s.tables
tables_after (UndoTo conn count) s = undo (drop count (s.lists conn)) s.tables
tables_after (Commit conn) s = Some s.tables
tables_after (Rollback conn) s = undo (s.lists conn) s.tables
tables_after (Schema change) s = apply (OnSchema change) s.tables

-- what else a record asks of the state: that no other connection has changed its row, that so many changes stand, that none stands at all
abbrev pub Allows : State → LogRecord → Type 0
Allows s (Changed conn change) = (other : ℕ) → other ≢ conn → changes_row_of (catalog_of s.tables) change (s.lists other) ≡ false
Allows s (UndoTo conn count) = count ≤ length (s.lists conn)
Allows s (Commit conn) = Unit {0}
Allows s (Rollback conn) = Unit {0}
Allows s (Schema change) = (conn : ℕ) → s.lists conn ≡ []

-- the number of the record's connection is one
abbrev pub IsOfConnection : LogRecord → Type 0
IsOfConnection (Changed conn change) = conn < connections
IsOfConnection (UndoTo conn count) = conn < connections
IsOfConnection (Commit conn) = conn < connections
IsOfConnection (Rollback conn) = conn < connections
IsOfConnection (Schema change) = Unit {0}

-- The record applies to a state, and gives the next one.
pub record Applies (entry : LogRecord) (s next : State) : Type 0 where
  pub conn : IsOfConnection entry
  pub allowed : Allows s entry
  pub tables : tables_after entry s ≡ Some next.tables
  pub lists : next.lists ≡ lists_after entry s.lists

-- each record applies to the state after those before it
abbrev pub AppliesAll : List LogRecord → State → State → Type 0
AppliesAll [] s last = s ≡ last
AppliesAll (entry ∷ entries) s last = (next : State) × Applies entry s next × AppliesAll entries next last

-- the state that the records reach from the empty one
abbrev pub Replays : List LogRecord → State → Type 0
Replays entries s = AppliesAll entries empty_state s
