-- What a frame's body spells, and what it makes of the tables. It is for the calls inside.
use Rattle.std.specs.Prelude.{◌≡◌, ◌≢◌, ◌==◌, ⊤, ℕ, Bool, false, List, [], ◌∷◌, ◌++◌, map, Option, Some, None, if◌then◌else◌}
use Rattle.std.specs.List.{AllByRecursion}
use Rattle.wat_value.specs.declared.change.Change.{Change}
use Rattle.wat_value.specs.declared.change.Act.TheVariants.{OnRow}
use Rattle.wat_schema.specs.Tables.{Tables, apply_all}
use Rattle.wat_log_record.specs.declared.log_record.LogRecord.{LogRecord}
use Rattle.wat_log_record.specs.declared.log_record.LogRecord.TheVariants as entries
use Rattle.wat_value.specs.declared.change.SchemaChange.{SchemaChange}
use Rattle.wat_log_record.specs.Encoding.{IsEncodableRecord}
use Rattle.wat_log_record.specs.Bodies.{SpellsRecords}
use Rattle.wat_commit_log.specs.Logged.{Transaction, acts_of, body_of, bytes_of, changed, records_of, HasActs, IsFramed}
use Rattle.wat_commit_log.specs.Opening.{IsNoTransactionAt}
use Rattle.wat_commit_log.specs.declared.opening.OpenWhy.{OpenWhy}
use Rattle.wat_commit_log.specs.declared.opening.OpenWhy.TheVariants.{NoDatabase, Damaged, DiskFault, Memory}

-- the bytes are those of these records, of which there may be none
pub record AreRecords (bytes : List ℕ) (records : List LogRecord) : Type 0 where
  pub spelled : bytes ≡ bytes_of records
  pub encodable : AllByRecursion IsEncodableRecord records

-- the bytes are those of no records
abbrev pub AreNoRecords : List ℕ → Type 0
AreNoRecords bytes = (records : List LogRecord) → AreRecords bytes records → ⊥

-- the change that a record tells of, where it is one of connection 1
abbrev pub change_by : LogRecord → Option Change
change_by (entries.Changed conn change) = if conn == 1 then Some change else None
change_by entry = None

abbrev pub is_commit : LogRecord → Bool
is_commit (entries.Commit conn) = conn == 1
is_commit entry = false

-- the schema change, where the records are that of one alone
abbrev pub schema_in : List LogRecord → Option SchemaChange
schema_in (entries.Schema change ∷ []) = Some change
schema_in records = None

-- these stand before the Commit of connection 1, and there are some
pub record IsBeforeCommit (records front : List LogRecord) : Type 0 where
  pub is : records ≡ front ++ entries.Commit 1 ∷ []
  pub some : front ≢ []

-- the records are changes that were made of these tables
pub record Changes (before : Tables) (records : List LogRecord) (after : Tables) : Type 0 where
  pub changes : List Change
  pub are : records ≡ map changed changes
  pub made : apply_all (map OnRow changes) before ≡ Some after

-- the records are those of a transaction, which was made of these tables
pub record Makes (before : Tables) (records : List LogRecord) (after : Tables) : Type 0 where
  pub transaction : Transaction
  pub are : records ≡ records_of transaction
  pub some : HasActs transaction
  pub made : apply_all (acts_of transaction) before ≡ Some after

-- the body is that of a transaction, which was made of these tables
pub record ReadsBody (before : Tables) (body : List ℕ) (after : Tables) : Type 0 where
  pub transaction : Transaction
  pub is : body ≡ body_of transaction
  pub framed : IsFramed transaction
  pub made : apply_all (acts_of transaction) before ≡ Some after

-- The frames of a log that is there may be refused so: as damaged at a frame that is no transaction, else by a fault or for want of memory.
abbrev pub MayRefuse : Type 0 → List ℕ → Type 0 → OpenWhy → Type 0
MayRefuse tells content rose NoDatabase = ⊥
MayRefuse tells content rose (Damaged at) = tells → IsNoTransactionAt content at
MayRefuse tells content rose DiskFault = rose
MayRefuse tells content rose Memory = ⊤
