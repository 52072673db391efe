-- What a call of the program leaves.
use Rattle.std.specs.Prelude.{◌≡◌, ◌≢◌, ◌⊎◌, ℕ, List, [], None, Some, Ok, Result, IfErr}
use Rattle.wat_faults.specs.Faults.{Rose}
use Rattle.wat_conn.specs.declared.session.Session.{Session}
use Rattle.wat_commit_log.specs.Logged.{log_file}
use Rattle.wat_words.specs.Commands.{command_of}
use Rattle.wat_words.specs.declared.Command.{Command}
use Rattle.wat_words.specs.declared.Command.TheVariants.{Init, Run, Translate, Dump}
use Rattle.wat_begin.specs.declared.fault.Fault.{Fault}
use Rattle.wat_tool.specs.Called.{names_called}
use Rattle.wat_tool.specs.Ending.{Outside, AsksFirst, ChangesFirstByte, Ends, HasOneHistory, IsNoSession, IsWell, LeavesUntouched, ended}
use Rattle.wat_tool.specs.ReadingBack.{GivesTablesBack}
use Rattle.wat_tool.specs.Reporting.{Output, Reports}

-- A call of these words ends so: with this status, what was done or why nothing was, the session, and the text of the log or of the tables.
pub record Finishes (outside : Outside) (output : Output) (words : List (List ℕ)) (status : ℕ) (outcome : Result Command Fault) (session : Session) (text : List ℕ) : Type 0 where
  -- It ends as the words call for, by what the scripts and the disk hold, or by a fault that has its cause.
  pub ends : Ends outside words (ended outcome session text)
  pub asks : AsksFirst (names_called words) outside.asked_before outside.asked
  pub nothing_asked : outcome ≢ Ok Run → IsNoSession session
  pub no_text : outcome ≢ Ok Translate → outcome ≢ Ok Dump → text ≡ []
  -- The session of `run` has one history, in which each statement, whatever its level, is answered by what it means over the tables that those
  -- before it leave, from those that restart gave before the call.
  pub history : outcome ≡ Ok Run → HasOneHistory outside session
  -- The log as it then is, read back as SQL and run alone on an empty database, gives the tables to which it restarts.
  pub read_back : GivesTablesBack (outside.disk.content log_file)
  -- A fault leaves all as it was, but for one of the disk in `init`, which at most writes the first byte of the log.
  pub untouched : IfErr outcome (LeavesUntouched words outside.disk_before outside.disk)
  pub init : command_of words ≡ Some Init → ChangesFirstByte outside.disk_before outside.disk
  -- What is written and the status are those of this end.
  pub reports : Reports output (ended outcome session text) status
  -- A count of faults stays, unless the status says that scripts or the disk have failed.
  pub script_faults : status ≢ 2 → outside.script_faults ≡ outside.script_faults_before
  pub disk_faults : status ≢ 4 → outside.disk.faults ≡ outside.disk_before.faults
  -- Status 1 stands for words that are no command, and where all is well the status is 0, unless memory was wanted.
  pub usage : status ≡ 1 → command_of words ≡ None
  pub no_command : command_of words ≡ None → (status ≡ 1) ⊎ (status ≡ 7)
  pub well : IsWell outside words → ¬ Rose output.faults_before output.faults → (status ≡ 0) ⊎ (status ≡ 7)
