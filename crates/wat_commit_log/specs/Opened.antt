-- What was opened, and what it knows of the disk.
use Rattle.std.specs.Prelude.{Result, Ok, Err}
use Rattle.wat_disk.specs.Disk.{Told}
use Rattle.wat_schema.specs.Tables.{Tables}
use Rattle.wat_gate.specs.GateLog.{IsLogOf, file_of}
use Rattle.wat_commit_log.specs.Logged.{Restarts}
use Rattle.wat_gate.specs.declared.gate_log.GateRefusal.{GateRefusal}
use Rattle.wat_gate.specs.declared.gate_log.GateRefusal.TheVariants as gate
use Rattle.wat_commit_log.specs.declared.opening.OpenWhy.{OpenWhy}
use Rattle.wat_commit_log.specs.declared.opening.OpenWhy.TheVariants.{DiskFault, Damaged, Memory}
use Rattle.wat_commit_log.specs.declared.opening.Opened.{Opened}

-- the tables of what was opened, or why it was not
abbrev pub answer_of : Result Opened OpenWhy → Result Tables OpenWhy
answer_of (Ok opened) = Ok opened.tables
answer_of (Err why) = Err why

-- why the log was not opened, where the gate log refused so
abbrev pub why_from : GateRefusal → OpenWhy
why_from gate.DiskFault = DiskFault
why_from (gate.Damaged at) = Damaged at
why_from gate.Memory = Memory

-- The opened log is that of the disk as it reads, and restart over its bytes gives the opened tables.
pub record IsOpened (told : Told) (opened : Opened) : Type 0 where
  pub log : IsLogOf told opened.log
  pub restarts : Restarts (told.content (file_of opened.log)) opened.tables
