-- A log that is read back, record by record and frame by frame.
use Rattle.std.specs.Prelude.{◌≡◌, ◌⊎◌, ◌<◌, ℕ, Bool, true, false, List, [], ◌++◌, take}
use Rattle.wat_disk.specs.Disk.{Image}
use Rattle.wat_gate.specs.Bodies.{bodies, gate_place, IsWhole, IsBrokenAt}
use Rattle.wat_log_record.specs.declared.log_record.LogRecord.{LogRecord}
use Rattle.wat_log_record.specs.Bodies.{SpellsLog, SpellsRecords}
use Rattle.wat_replay.specs.State.{State, empty_state}
use Rattle.wat_replay.specs.Replay.{AppliesAll, Replays}
use Rattle.wat_recover.specs.Machine.{state_of}
use Rattle.wat_files.specs.Formed.{AppliesBody, AppliesBodies, BodiesStop}
use Rattle.wat_undo.specs.Kept.{lists_of}
use Rattle.wat_translated.specs.Translated.{translated}
use Rattle.wat_translate.specs.declared.reader.Reader.{Reader}

-- ---- what is answered

-- The bytes are a log whose records apply one after another from the empty database on, and this is their text.
pub record IsReadBack (content text : List ℕ) : Type 0 where
  pub whole : IsWhole content
  pub entries : List LogRecord
  pub spelled : SpellsLog (bodies content) entries
  pub reached : State
  pub replays : Replays entries reached
  pub is : text ≡ translated entries

-- This is the gate of the first frame that spells no records, or records that don't apply one after another from the empty database on.
pub record HasBadFrameAt (content : List ℕ) (at : ℕ) : Type 0 where
  pub whole : IsWhole content
  pub behind : ℕ
  pub stops : BodiesStop (bodies content) empty_state behind
  pub place : at ≡ gate_place content behind

-- The log is broken as a gate log at this gate, or it is one and has its first bad frame here.
abbrev pub FailsAt : List ℕ → ℕ → Type 0
FailsAt content at = IsBrokenAt content at ⊎ HasBadFrameAt content at

-- There is no database: its three files are empty.
abbrev pub AreEmpty : Image → Type 0
AreEmpty files = (file : ℕ) → file < 3 → files file ≡ []

-- ---- on the way

-- The reader has this state.
pub record IsAt (r : Reader) (s : State) : Type 0 where
  pub machine : state_of (λ t. t.tables) r.machine ≡ s
  pub lists : lists_of r.standing ≡ s.lists

-- The records so far have led the reader to this state, and this is their text.
pub record HasTold (r : Reader) (text : List ℕ) (entries : List LogRecord) (s : State) : Type 0 where
  pub at : IsAt r s
  pub replays : Replays entries s
  pub is : text ≡ translated entries

-- Where these records were made, they lead on from the state and are in the text. Where not, they don't apply.
abbrev pub Tells : Reader → List ℕ → List LogRecord → List LogRecord → State → Bool → Type 0
Tells r text before more s true = (next : State) × AppliesAll more s next × HasTold r text (before ++ more) next
Tells r text before more s false = (next : State) → AppliesAll more s next → ⊥

-- Where the records of this body were made, they lead on from the state and are in the text. Where not, the body spells none that apply.
abbrev pub TellsBody : Reader → List ℕ → List LogRecord → List ℕ → State → Bool → Type 0
TellsBody r text before body s true = (more : List LogRecord) × SpellsRecords body more × Tells r text before more s true
TellsBody r text before body s false = (next : State) → AppliesBody body s next → ⊥

-- So many frames of the log were read.
pub record HasRead (content : List ℕ) (frames : ℕ) (r : Reader) (text : List ℕ) : Type 0 where
  pub entries : List LogRecord
  pub state : State
  pub spelled : SpellsLog (take frames (bodies content)) entries
  pub applied : AppliesBodies (take frames (bodies content)) empty_state state
  pub told : HasTold r text entries state
