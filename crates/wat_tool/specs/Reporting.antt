-- What a call writes, and its status.
use Rattle.std.specs.Prelude.{◌≡◌, ℕ, Bool, true, false, List, [], ◌++◌, codes, decimal, Option, None, Some, Result, Ok, Err}
use Rattle.wat_faults.specs.Faults.{Rose}
use Rattle.wat_io.specs.Sink.{Sends}
use Rattle.wat_conn.specs.declared.answer.Reason.{Reason}
use Rattle.wat_conn.specs.declared.answer.Reason.TheVariants as reason
use Rattle.wat_print.specs.Printed.{printed}
use Rattle.wat_begin.specs.declared.fault.Fault.{Fault}
use Rattle.wat_begin.specs.declared.fault.Fault.TheVariants.{Usage, CannotRead, TooLong, NotText, NoDatabase, Exists, Damaged, DiskFault, Memory}
use Rattle.wat_tool.specs.declared.performing.Done.{Done}
use Rattle.wat_tool.specs.declared.performing.Done.TheVariants.{Made, Played, Translated, Dumped}

-- what is written of a fault
abbrev pub fault_line : Fault → List ℕ
fault_line Usage = codes "watsql: usage\n"
fault_line (CannotRead i) = codes "watsql: cannot read script " ++ decimal i ++ codes "\n"
fault_line (TooLong i) = codes "watsql: script " ++ decimal i ++ codes " is too long\n"
fault_line (NotText i at) = codes "watsql: script " ++ decimal i ++ codes " is not text at " ++ decimal at ++ codes "\n"
fault_line NoDatabase = codes "watsql: no database\n"
fault_line Exists = codes "watsql: a database is here\n"
fault_line (Damaged at) = codes "watsql: damaged log at " ++ decimal at ++ codes "\n"
fault_line DiskFault = codes "watsql: disk fault\n"
fault_line Memory = codes "watsql: want of memory\n"

abbrev pub fault_status : Fault → ℕ
fault_status Usage = 1
fault_status (CannotRead i) = 2
fault_status (TooLong i) = 8
fault_status (NotText i at) = 8
fault_status NoDatabase = 3
fault_status Exists = 3
fault_status (Damaged at) = 3
fault_status DiskFault = 4
fault_status Memory = 7

abbrev pub reason_status : Reason → ℕ
reason_status (reason.Damaged file at) = 3
reason_status reason.DiskFault = 4
reason_status (reason.PageLimit count limit) = 6
reason_status reason.Memory = 7

-- what is written: nothing of a database that was made, the text of a log that was read back or of tables, and want of memory where printing the session finds none
abbrev pub text_of : Result Done Fault → Bool → List ℕ
text_of (Err fault) found = fault_line fault
text_of (Ok Made) found = []
text_of (Ok (Played session)) true = printed session
text_of (Ok (Played session)) false = fault_line Memory
text_of (Ok (Translated text)) found = text
text_of (Ok (Dumped text)) found = text

-- the status of a stop, of printing that found no memory, of a text that went out in part, or 0
abbrev pub session_status : Option Reason → Bool → Bool → ℕ
session_status (Some reason) found whole = reason_status reason
session_status None false whole = 7
session_status None true false = 5
session_status None true true = 0

abbrev pub status_of : Result Done Fault → Bool → Bool → ℕ
status_of (Err fault) found whole = fault_status fault
status_of (Ok Made) found whole = 0
status_of (Ok (Played session)) found whole = session_status session.stop found whole
status_of (Ok (Translated text)) found whole = session_status None true whole
status_of (Ok (Dumped text)) found whole = session_status None true whole

-- The output: what it took, as far as it tells, and its count of faults, when the call began and when it ended.
pub record Output : Type 0 where
  pub taken_before : Option (List ℕ)
  pub taken : Option (List ℕ)
  pub faults_before : ℕ
  pub faults : ℕ

-- The text went out, or where the sink failed a proper prefix of it, and the status is that of the end.
pub record Reports (output : Output) (ended : Result Done Fault) (status : ℕ) : Type 0 where
  -- printing found memory
  pub found : Bool
  -- the text went out whole
  pub whole : Bool
  pub sent : Sends output.taken_before output.taken (text_of ended found) whole
  pub rose : whole ≡ false → Rose output.faults_before output.faults
  pub kept : whole ≡ true → output.faults ≡ output.faults_before
  pub is : status ≡ status_of ended found whole
