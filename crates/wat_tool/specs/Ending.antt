-- How a call ends: what the outside answered, step by step, and what the call leaves. The causes stand in their order: the words,
-- for `run` the scripts in order and opening the log, for `init` making the log.
use Rattle.std.specs.Prelude.{⊤, ◌≡◌, ◌≢◌, ◌≤◌, ◌+◌, ◌-◌, ◌*◌, ◌^◌, ℕ, min, length, take, List, [], ◌∷◌, ◌++◌, Option, None, Some, Result, Ok, Err, All}
use Rattle.wat_schema.specs.Tables.{Tables, no_tables}
use Rattle.std.specs.Str.Lossy.{utf8_valid_len}
use Rattle.wat_faults.specs.Faults.{Rose}
use Rattle.wat_io.specs.Scripts.{Texts}
use Rattle.wat_disk.specs.Bytes.{Torn}
use Rattle.wat_disk.specs.Disk.{Told, SameFiles, SameOthers, EachStop, EachLeft, InFile}
use Rattle.wat_gate.specs.Bodies.{bodies}
use Rattle.wat_conn.specs.declared.session.Session.{Session}
use Rattle.wat_conn.specs.declared.answer.Reason.TheVariants.{DiskFault}
use Rattle.wat_commit_log.specs.Logged.{log_file, Restarts}
use Rattle.wat_commit_log.specs.Making.{MayMake}
use Rattle.wat_commit_log.specs.Opening.{MayOpen}
use Rattle.wat_commit_log.specs.declared.making.InitRefusal.{InitRefusal}
use Rattle.wat_commit_log.specs.declared.opening.OpenWhy.{OpenWhy}
use Rattle.wat_session.specs.Session.{IsSession, Setting}
use Rattle.wat_one_history.specs.OneHistory.{IsOneHistory}
use Rattle.wat_words.specs.Commands.{command_of, names_of}
use Rattle.wat_words.specs.declared.Command.{Command}
use Rattle.wat_words.specs.declared.Command.TheVariants.{Init, Run, Translate, Dump}
use Rattle.wat_begin.specs.Faults.{UnlessMemory}
use Rattle.wat_begin.specs.Readings.{Reading, AreReadings, names_asked, script_limit, scripts_of}
use Rattle.wat_begin.specs.declared.fault.Fault.{Fault}
use Rattle.wat_begin.specs.declared.fault.Fault.TheVariants as why
use Rattle.wat_translate.specs.Reading.{IsReadBack}
use Rattle.wat_tool.specs.Called.{made, opened, names_called}
use Rattle.wat_tool.specs.Dumps.{IsDump}
use Rattle.wat_tool.specs.ReadingBack.{MayReadBack}
use Rattle.wat_tool.specs.declared.performing.Done.{Done}
use Rattle.wat_tool.specs.declared.performing.Done.TheVariants.{Made, Played, Translated, Dumped}

-- The outside: what it holds and was asked, as far as it tells, and its counts of faults, when the call began and when it ended.
pub record Outside : Type 1 where
  pub texts : Option Texts
  pub asked_before : List (List ℕ)
  pub asked : List (List ℕ)
  pub script_faults_before : ℕ
  pub script_faults : ℕ
  -- the disk tells what its files hold
  pub tells : Type 0
  pub disk_before : Told
  pub disk : Told

-- The log was made: it is one closed gate, and whatever a stop then leaves restarts without tables.
pub record IsMade (tells : Type 0) (now : Told) : Type 0 where
  pub content : tells → now.content log_file ≡ 0 ∷ []
  pub kept : tells → EachLeft now now.moment now.moment (λ image. Restarts (image log_file) no_tables)

-- a database was made
abbrev pub EndsMade : Outside → Result ⊤ Fault → Result Done Fault → Type 0
EndsMade outside (Err fault) ended = ended ≡ Err fault
EndsMade outside (Ok made) ended = (ended ≡ Ok Made) × IsMade outside.tells outside.disk

-- `init`: making the log answered in some way that it may, and the call ended by that.
pub record EndsInit (outside : Outside) (ended : Result Done Fault) : Type 0 where
  pub making : Result ⊤ InitRefusal
  pub may_make : MayMake outside.tells (outside.disk_before.content log_file) (Rose outside.disk_before.faults outside.disk.faults) making
  pub is : EndsMade outside (made making) ended

-- A session over these tables of the log, from the disk as it was before to the disk now; opening the log had so many frames to read.
abbrev pub over : Outside → Tables → ℕ → Setting
over outside tables frames = record {
  tells = outside.tells;
  entry = outside.disk_before;
  now = outside.disk;
  start = min (outside.disk_before.moment + (6 * frames + 3)) (2 ^ 64 - 1);
  file = log_file;
  base = tables;
}

-- The session of these scripts over the tables of the log: each statement has its turn, and all are one history.
pub record IsSessionOf (outside : Outside) (texts : List (List ℕ)) (tables : Tables) (session : Session) : Type 0 where
  -- opening the log made three calls on the disk, and six more for each of its frames
  pub frames : ℕ
  pub counted : outside.tells → frames ≡ length (bodies (outside.disk_before.content log_file))
  pub is : IsSession (over outside tables frames) texts session
  pub one : IsOneHistory (over outside tables frames) session

-- The session is one serial history over the tables that restart gave before, and a stop leaves a beginning of it.
pub record HasOneHistory (outside : Outside) (session : Session) : Type 0 where
  pub base : Tables
  pub restarts : outside.tells → Restarts (outside.disk_before.content log_file) base
  pub frames : ℕ
  pub one : IsOneHistory (over outside base frames) session

-- a session was played, and it has P
abbrev pub IsPlayed : Result Done Fault → (Session → Type 0) → Type 0
IsPlayed (Ok (Played session)) P = P session
IsPlayed (Ok Made) P = ⊥
IsPlayed (Ok (Translated text)) P = ⊥
IsPlayed (Ok (Dumped text)) P = ⊥
IsPlayed (Err fault) P = ⊥

-- these scripts were played over the tables of the log
abbrev pub EndsPlayed : Outside → List (List ℕ) → Result Tables Fault → Result Done Fault → Type 0
EndsPlayed outside texts (Err fault) ended = ended ≡ Err fault
EndsPlayed outside texts (Ok tables) ended = IsPlayed ended (IsSessionOf outside texts tables)

-- These scripts were read, opening the log answered in some way that it may, and the call ended by that.
pub record EndsOpened (outside : Outside) (texts : List (List ℕ)) (ended : Result Done Fault) : Type 0 where
  pub opening : Result Tables OpenWhy
  pub may_open : MayOpen outside.tells (outside.disk_before.content log_file) (Rose outside.disk_before.faults outside.disk.faults) opening
  pub is : EndsPlayed outside texts (opened opening) ended

-- the scripts were read
abbrev pub EndsRead : Outside → Result (List (List ℕ)) Fault → Result Done Fault → Type 0
EndsRead outside (Err fault) ended = ended ≡ Err fault
EndsRead outside (Ok texts) ended = EndsOpened outside texts ended

-- `run` of the scripts under these names: each was asked for once, in order, up to the first at fault, and answered in some way that it
-- may, and the call ended by that.
pub record EndsRun (outside : Outside) (names : List (List ℕ)) (ended : Result Done Fault) : Type 0 where
  pub readings : List Reading
  pub asked : outside.asked ≡ outside.asked_before ++ names_asked names (scripts_of 1 readings)
  pub may_read : AreReadings outside.texts outside.script_faults_before outside.script_faults (names_asked names (scripts_of 1 readings)) readings
  pub is : EndsRead outside (scripts_of 1 readings) ended

-- `translate`: the log was read back in some way that it may be, and the call ended by that.
abbrev pub EndsTranslate : Outside → Result Done Fault → Type 0
EndsTranslate outside ended = MayReadBack outside.tells outside.disk_before.content (Rose outside.disk_before.faults outside.disk.faults) ended

-- `dump`: opening the log answered in some way that it may, and the call ended by that: with the text of the tables, where there are any.
abbrev pub EndsDump : Outside → Result Done Fault → Type 0
EndsDump outside ended = IsDump outside.tells (outside.disk_before.content log_file) (Rose outside.disk_before.faults outside.disk.faults) ended

-- Words that are no command end with that, and a command as it does.
abbrev pub EndsBy : Outside → List (List ℕ) → Option Command → Result Done Fault → Type 0
EndsBy outside words None ended = ended ≡ Err why.Usage
EndsBy outside words (Some Init) ended = EndsInit outside ended
EndsBy outside words (Some Run) ended = EndsRun outside (names_of Run words) ended
EndsBy outside words (Some Translate) ended = EndsTranslate outside ended
EndsBy outside words (Some Dump) ended = EndsDump outside ended

-- The call ended as the words call for, or by want of memory.
abbrev pub Ends : Outside → List (List ℕ) → Result Done Fault → Type 0
Ends outside words ended = UnlessMemory ended (EndsBy outside words (command_of words) ended)

-- how the call ended: with a fault, with the database that `init` made, with the session, or with the text of the log or of the tables
abbrev pub ended : Result Command Fault → Session → List ℕ → Result Done Fault
ended (Err fault) session text = Err fault
ended (Ok Init) session text = Ok Made
ended (Ok Run) session text = Ok (Played session)
ended (Ok Translate) session text = Ok (Translated text)
ended (Ok Dump) session text = Ok (Dumped text)

-- the command that was done, or why none was
abbrev pub outcome_of : Result Done Fault → Result Command Fault
outcome_of (Err fault) = Err fault
outcome_of (Ok Made) = Ok Init
outcome_of (Ok (Played session)) = Ok Run
outcome_of (Ok (Translated text)) = Ok Translate
outcome_of (Ok (Dumped text)) = Ok Dump

-- the call met a fault of the disk
abbrev pub MetDiskFault : Result Done Fault → Type 0
MetDiskFault (Err fault) = fault ≡ why.DiskFault
MetDiskFault (Ok Made) = ⊥
MetDiskFault (Ok (Played session)) = session.stop ≡ Some DiskFault
MetDiskFault (Ok (Translated text)) = ⊥
MetDiskFault (Ok (Dumped text)) = ⊥

-- Scripts were asked for the first few of these names, in order, each once.
pub record AsksFirst (names before now : List (List ℕ)) : Type 0 where
  pub count : ℕ
  pub is : now ≡ before ++ take count names

-- the words or a script were at fault, before any call on the disk
abbrev pub IsBeforeDisk : Fault → Type 0
IsBeforeDisk why.Usage = ⊤
IsBeforeDisk (why.CannotRead i) = ⊤
IsBeforeDisk (why.TooLong i) = ⊤
IsBeforeDisk (why.NotText i at) = ⊤
IsBeforeDisk _ = ⊥

-- Nothing was asked.
pub record IsNoSession (session : Session) : Type 0 where
  pub scripts : session.scripts ≡ []
  pub transcripts : session.transcripts ≡ []
  pub moments : session.moments.items ≡ []
  pub stop : session.stop ≡ None

-- No file was changed, and a stop at any moment leaves what one could leave before.
pub record IsUntouched (before now : Told) : Type 0 where
  pub content : SameFiles before.content now.content
  pub stops : EachStop before now SameFiles

-- A fault leaves all files untouched, but for one of the disk that `init` meets; one of the words or the scripts makes no call on the disk.
pub record LeavesUntouched (words : List (List ℕ)) (before now : Told) (met : Fault) : Type 0 where
  pub untouched : (command_of words ≡ Some Init → met ≢ why.DiskFault) → IsUntouched before now
  pub uncalled : IsBeforeDisk met → now.moment ≡ before.moment

-- Nothing else was changed than the first byte of the log, and a stop at any moment leaves nothing else changed.
pub record ChangesFirstByte (before now : Told) : Type 0 where
  pub others : SameOthers log_file before.content now.content
  pub stops : EachStop before now (InFile log_file (Torn 0 1))

-- A text stands under the name, and is UTF-8 within the limit.
pub record HasText (texts : Texts) (name : List ℕ) : Type 0 where
  pub text : List ℕ
  pub stands : texts name ≡ Some text
  pub short : length text ≤ script_limit
  pub is_text : utf8_valid_len text ≡ length text

-- The log is as the command needs it: empty for `init`, one that restart reads for `run` and `dump`, and one that is read back for `translate`.
abbrev pub Serves : Command → List ℕ → Type 0
Serves Init log = log ≡ []
Serves Run log = (tables : Tables) × Restarts log tables
Serves Translate log = (text : List ℕ) × IsReadBack log text
Serves Dump log = (tables : Tables) × Restarts log tables

-- The words are a command, its scripts are texts, the log is as it needs it, and neither scripts nor disk failed.
pub record IsWell (outside : Outside) (words : List (List ℕ)) : Type 0 where
  pub command : Command
  pub is : command_of words ≡ Some command
  pub texts : Texts
  pub told : outside.texts ≡ Some texts
  pub scripts : All (HasText texts) (names_called words)
  pub tells : outside.tells
  pub log : Serves command (outside.disk_before.content log_file)
  pub script_faults : ¬ Rose outside.script_faults_before outside.script_faults
  pub disk_faults : ¬ Rose outside.disk_before.faults outside.disk.faults
