-- What reading a log back as SQL comes to.
use Rattle.std.specs.Prelude.{⊤, ◌≡◌, ℕ, List, Result, Ok, Err}
use Rattle.wat_schema.specs.Tables.{Tables, no_tables}
use Rattle.wat_disk.specs.Disk.{Image}
use Rattle.wat_gate.specs.Bodies.{bodies}
use Rattle.wat_replay.specs.Committed as log
use Rattle.wat_serial.specs.Script.{run}
use Rattle.wat_commit_log.specs.Logged.{log_file}
use Rattle.wat_log_record.specs.declared.log_record.LogRecord.{LogRecord}
use Rattle.wat_log_record.specs.Bodies.{SpellsLog}
use Rattle.wat_translated.specs.Translated.{translated}
use Rattle.wat_translate.specs.Reading.{AreEmpty, FailsAt, IsReadBack}
use Rattle.wat_begin.specs.declared.fault.Fault.{Fault}
use Rattle.wat_begin.specs.declared.fault.Fault.TheVariants.{NoDatabase, Damaged, DiskFault, Memory}
use Rattle.wat_tool.specs.declared.performing.Done.{Done}
use Rattle.wat_tool.specs.declared.performing.Done.TheVariants.{Made, Played, Translated, Dumped}

-- The text is that of the transactions which the log has committed. Run alone on an empty database, it gives the tables to which the log restarts.
pub record IsTranslated (content text : List ℕ) : Type 0 where
  pub is : IsReadBack content text
  pub runs : (t : Tables) → log.Restarts (bodies content) t → run text no_tables ≡ Ok t

-- The log is damaged at this place, and not all files are empty.
pub record IsDamaged (files : Image) (at : ℕ) : Type 0 where
  pub some : AreEmpty files → ⊥
  pub fails : FailsAt (files log_file) at

-- Reading the log back may end so, where the disk tells these files, and where a fault has this cause.
abbrev pub MayReadBack : Type 0 → Image → Type 0 → Result Done Fault → Type 0
MayReadBack tells files rose (Ok Made) = ⊥
MayReadBack tells files rose (Ok (Played session)) = ⊥
MayReadBack tells files rose (Ok (Translated text)) = tells → IsTranslated (files log_file) text
MayReadBack tells files rose (Ok (Dumped text)) = ⊥
MayReadBack tells files rose (Err NoDatabase) = tells → AreEmpty files
MayReadBack tells files rose (Err (Damaged at)) = tells → IsDamaged files at
MayReadBack tells files rose (Err DiskFault) = rose
MayReadBack tells files rose (Err Memory) = ⊤
MayReadBack tells files rose (Err other) = ⊥

-- Where the log restarts to tables, the text that its records are read back as gives these tables, run alone on an empty database.
abbrev pub GivesTablesBack : List ℕ → Type 0
GivesTablesBack content = (t : Tables) → log.Restarts (bodies content) t → (entries : List LogRecord) × SpellsLog (bodies content) entries × (run (translated entries) no_tables ≡ Ok t)
