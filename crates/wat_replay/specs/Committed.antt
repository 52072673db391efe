-- The committed tables, told by the records alone.
use Rattle.std.specs.Prelude.{◌≡◌, ℕ, List, [], ◌∷◌, ◌++◌, map, Option, Some}
use Rattle.wat_value.specs.declared.change.Act.{Act}
use Rattle.wat_value.specs.declared.change.Act.TheVariants.{OnRow, OnSchema}
use Rattle.wat_schema.specs.Tables.{Tables, apply_all, no_tables}
use Rattle.wat_log_record.specs.declared.log_record.LogRecord.{LogRecord}
use Rattle.wat_log_record.specs.declared.log_record.LogRecord.TheVariants.{Changed, UndoTo, Commit, Rollback, Schema}
use Rattle.wat_log_record.specs.Bodies.{SpellsLog}
use Rattle.wat_replay.specs.State.{Lists, no_lists}
use Rattle.wat_replay.specs.Replay.{lists_after}

-- what a record commits, where these lists stand: a connection's changes, or a change of the schema
abbrev pub commits : LogRecord → Lists → List Act
commits (Changed conn change) lists = []
commits (UndoTo conn count) lists = []
commits (Commit conn) lists = map OnRow (lists conn)
commits (Rollback conn) lists = []
commits (Schema change) lists = OnSchema change ∷ []

-- a record that commits nothing, whatever stands
abbrev pub CommitsNothing : LogRecord → Type 0
CommitsNothing (Changed conn change) = Unit {0}
CommitsNothing (UndoTo conn count) = Unit {0}
CommitsNothing (Commit conn) = ⊥
CommitsNothing (Rollback conn) = Unit {0}
CommitsNothing (Schema change) = ⊥

-- the lists after these records: a connection's changes since its last Commit or Rollback, less those that were undone
abbrev pub lists_after_all : List LogRecord → Lists → Lists
lists_after_all [] lists = lists
lists_after_all (entry ∷ entries) lists = lists_after_all entries (lists_after entry lists)

abbrev pub open_lists : List LogRecord → Lists
open_lists entries = lists_after_all entries no_lists

-- all that the records commit, in the order of their Commit and Schema records
abbrev pub commits_of : List LogRecord → Lists → List Act
commits_of [] lists = []
commits_of (entry ∷ entries) lists = commits entry lists ++ commits_of entries (lists_after entry lists)

-- the tables after all that the records commit
abbrev pub committed : List LogRecord → Option Tables
committed entries = apply_all (commits_of entries no_lists) no_tables

-- The bodies of a log restart to the tables that their records have committed.
pub record Restarts (bodies : List (List ℕ)) (t : Tables) : Type 0 where
  pub entries : List LogRecord
  pub spelled : SpellsLog bodies entries
  pub committed : committed entries ≡ Some t
