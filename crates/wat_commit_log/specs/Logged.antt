-- The transactions of a database in a gate log, a frame for each that has acts.
use Rattle.std.specs.Prelude.{◌≡◌, ◌≢◌, ⊤, ℕ, List, [], ◌∷◌, ◌++◌, map, Some, All}
use Rattle.std.specs.List.{flat_map, AllByRecursion}
use Rattle.wat_value.specs.declared.change.Change.{Change}
use Rattle.wat_value.specs.declared.change.SchemaChange.{SchemaChange}
use Rattle.wat_value.specs.declared.change.Act.{Act}
use Rattle.wat_value.specs.declared.change.Act.TheVariants.{OnRow, OnSchema}
use Rattle.wat_schema.specs.Tables.{Tables, apply_all, no_tables}
use Rattle.wat_gate.specs.Bodies.{bodies, IsWhole}
use Rattle.wat_log_record.specs.declared.log_record.LogRecord.{LogRecord}
use Rattle.wat_log_record.specs.declared.log_record.LogRecord.TheVariants as entries
use Rattle.wat_log_record.specs.Encoding.{record_bytes, IsEncodableRecord}

-- the number of the log's file
abbrev pub log_file : ℕ
log_file = 2

-- a transaction: changes of rows in their order, or one change of the schema
pub data Transaction : Type 0 where
  OfRows : List Change → Transaction
  OfSchema : SchemaChange → Transaction

abbrev pub acts_of : Transaction → List Act
acts_of (OfRows changes) = map OnRow changes
acts_of (OfSchema change) = OnSchema change ∷ []

-- the record of a change by connection 1, which is the only one
abbrev pub changed : Change → LogRecord
changed change = entries.Changed 1 change

-- its records: each change and then the Commit, or the schema change alone
abbrev pub records_of : Transaction → List LogRecord
records_of (OfRows changes) = map changed changes ++ entries.Commit 1 ∷ []
records_of (OfSchema change) = entries.Schema change ∷ []

abbrev pub bytes_of : List LogRecord → List ℕ
bytes_of records = flat_map record_bytes records

-- the body of its frame
abbrev pub body_of : Transaction → List ℕ
body_of t = bytes_of (records_of t)

abbrev pub HasActs : Transaction → Type 0
HasActs (OfRows changes) = changes ≢ []
HasActs (OfSchema change) = ⊤

-- A frame holds the transaction: it has acts, and its records can be spelled.
pub record IsFramed (t : Transaction) : Type 0 where
  pub some : HasActs t
  pub encodable : AllByRecursion IsEncodableRecord (records_of t)

-- the acts of these transactions, one after another
abbrev pub all_acts : List Transaction → List Act
all_acts transactions = flat_map acts_of transactions

-- The bytes are a gate log whose frames hold these transactions.
pub record IsLogged (content : List ℕ) (transactions : List Transaction) : Type 0 where
  pub whole : IsWhole content
  pub bodies : bodies content ≡ map body_of transactions
  pub framed : All IsFramed transactions

-- Restart over these bytes gives these tables: those that the acts of all transactions make of none.
pub record Restarts (content : List ℕ) (t : Tables) : Type 0 where
  pub transactions : List Transaction
  pub logged : IsLogged content transactions
  pub is : apply_all (all_acts transactions) no_tables ≡ Some t

-- The new log has the frames of the old one, and then that of this transaction.
pub record AddsFrame (t : Transaction) (old new : List ℕ) : Type 0 where
  pub whole : IsWhole new
  pub bodies : bodies new ≡ bodies old ++ body_of t ∷ []
