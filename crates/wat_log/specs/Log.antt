-- The transaction log: the records in its file, and those that are noted in memory.
use Rattle.std.specs.Prelude.{◌≡◌, ℕ, List}
use Rattle.std.specs.List.{flat_map, AllByRecursion}
use Rattle.wat_disk.specs.Disk.{Told}
use Rattle.wat_gate.specs.declared.gate_log.GateLog.{GateLog}
use Rattle.wat_gate.specs.Bodies.{IsWhole, bodies}
use Rattle.wat_gate.specs.GateLog.{IsLogOf, frames_of}
use Rattle.wat_log_record.specs.declared.log_record.LogRecord.{LogRecord}
use Rattle.wat_log_record.specs.Bodies.{SpellsLog}
use Rattle.wat_log_record.specs.Encoding.{record_bytes, IsEncodableRecord}
use Rattle.wat_log.specs.declared.record_log.Log.{Log}

-- the number of the log's file
abbrev pub log_file : ℕ
log_file = 2

-- The bytes of the file are a gate log, and its bodies spell these records, one frame after another.
pub record HasRecords (content : List ℕ) (entries : List LogRecord) : Type 0 where
  pub whole : IsWhole content
  pub spelled : SpellsLog (bodies content) entries

-- the gate log under it
abbrev pub gate_of : Log → GateLog
gate_of log = log.gate

-- how many frames it has
abbrev pub log_frames : Log → ℕ
log_frames log = frames_of (gate_of log)

-- The log is that of its file as it reads.
abbrev pub IsOpenLog : Told → Log → Type 0
IsOpenLog told log = IsLogOf told (gate_of log)

-- the bytes that are noted and not flushed
abbrev pub noted_bytes : Log → List ℕ
noted_bytes log = log.noted.items

-- These records are noted and not flushed, in this order.
pub record HasNoted (log : Log) (entries : List LogRecord) : Type 0 where
  pub spelled : noted_bytes log ≡ flat_map record_bytes entries
  pub encodable : AllByRecursion IsEncodableRecord entries

-- for how many commits room is made
abbrev pub spare_of : Log → ℕ
spare_of log = log.spare
