-- The text of SQL that a log is read back as.
use Rattle.std.specs.Prelude.{ℕ, List, [], ◌∷◌, ◌++◌, map}
use Rattle.wat_value.specs.declared.change.Change.{Change}
use Rattle.wat_value.specs.declared.change.Act.{Act}
use Rattle.wat_value.specs.declared.change.Act.TheVariants.{OnRow, OnSchema}
use Rattle.wat_schema.specs.Tables.{no_tables}
use Rattle.wat_log_record.specs.declared.log_record.LogRecord.{LogRecord}
use Rattle.wat_log_record.specs.declared.log_record.LogRecord.TheVariants.{Changed, UndoTo, Commit, Rollback, Schema}
use Rattle.wat_replay.specs.State.{Lists, no_lists}
use Rattle.wat_replay.specs.Replay.{lists_after}
use Rattle.wat_script_texts.specs.Texts.{script_text}
use Rattle.wat_script_texts.specs.Written.{transactions_from}

-- the transaction of these changes, and none of no changes
abbrev pub unless_empty : List Change → List (List Act)
unless_empty [] = []
unless_empty (change ∷ changes) = map OnRow (change ∷ changes) ∷ []

-- the transaction that a record commits, where these lists stand: the changes of its connection that were not undone, or a change of the schema
abbrev pub transaction : LogRecord → Lists → List (List Act)
transaction (Changed conn change) lists = []
transaction (UndoTo conn count) lists = []
transaction (Commit conn) lists = unless_empty (lists conn)
transaction (Rollback conn) lists = []
transaction (Schema change) lists = (OnSchema change ∷ []) ∷ []

-- the transactions that the records commit, in the order of their Commit and Schema records
abbrev pub transactions_of : List LogRecord → Lists → List (List Act)
transactions_of [] lists = []
transactions_of (entry ∷ entries) lists = transaction entry lists ++ transactions_of entries (lists_after entry lists)

-- those of a log's records
abbrev pub transactions_in : List LogRecord → List (List Act)
transactions_in entries = transactions_of entries no_lists

-- the text: the statements of the transactions, one after another, each transaction but a change of the schema with COMMIT behind it
abbrev pub translated : List LogRecord → List ℕ
translated entries = script_text (transactions_from no_tables (transactions_in entries))
