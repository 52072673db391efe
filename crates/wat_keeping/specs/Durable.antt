-- What a store keeps on its disk: a checkpoint and the frames of a log, and the databases that a stop leaves of them.
use Rattle.std.specs.Prelude.{◌≡◌, ◌⊎◌, ℕ, ◌≤◌, nat_lt, List, length, take, drop, Some, None, if◌then◌else◌}
use Rattle.wat_disk.specs.Disk.{Image, Told, IsSynced}
use Rattle.wat_gate.specs.Bodies.{bodies, frames_len, IsWhole}
use Rattle.wat_restore.specs.Head.{Head, IsHead}
use Rattle.wat_restore.specs.Restored.{Checkpoint, IsCovered}
use Rattle.wat_restore.specs.Safe.{IsSafe}
use Rattle.wat_book.specs.Book.{Section}
use Rattle.wat_schema.specs.Tables.{Tables}
use Rattle.wat_log_record.specs.declared.log_record.LogRecord.{LogRecord}
use Rattle.wat_log_record.specs.Bodies.{SpellsLog}
use Rattle.wat_replay.specs.State.{State}
use Rattle.wat_replay.specs.Replay.{AppliesAll, Replays}
use Rattle.wat_files.specs.Formed.{Stands, IsSound, Restarts}

-- the pages of a checkpoint
abbrev pub saved_pages : Checkpoint → Section
saved_pages saved page = if nat_lt page saved.count then Some (saved.page page) else None

-- The pages of a checkpoint stand for a state, and its first page is this header.
pub record Saves (saved : Checkpoint) (head : Head) (s : State) : Type 0 where
  pub first : IsHead (saved.page 0) head
  pub count : saved.count ≡ head.count
  pub stands : Stands (saved_pages saved) head s

-- A checkpoint and the bodies of a log make a database: the checkpoint stands for what the bodies before it reach, and the others lead on to a state.
pub record Makes (saved : Checkpoint) (head : Head) (log : List (List ℕ)) (now : State) : Type 0 where
  pub at : State
  pub saves : Saves saved head at
  pub frames : head.frames ≤ length log
  pub place : head.place ≡ frames_len (take head.frames log)
  pub earlier : List LogRecord
  pub before : SpellsLog (take head.frames log) earlier
  pub replayed : Replays earlier at
  pub later : List LogRecord
  pub behind : SpellsLog (drop head.frames log) later
  pub applied : AppliesAll later at now

-- The image holds that checkpoint, and a log of these bodies.
pub record IsAt (saved : Checkpoint) (log : List (List ℕ)) (files : Image) : Type 0 where
  pub covered : IsCovered saved files
  pub whole : IsWhole (files 2)
  pub bodies : bodies (files 2) ≡ log

-- Whatever a stop now may leave holds that checkpoint and these bodies.
pub record IsDurable (saved : Checkpoint) (log : List (List ℕ)) (told : Told) : Type 0 where
  pub pages : IsSafe saved told
  pub synced : IsSynced told 2
  pub whole : IsWhole (told.content 2)
  pub bodies : bodies (told.content 2) ≡ log

-- The files are sound, restart to these tables, and have this page limit.
pub record IsDatabase (limit : ℕ) (t : Tables) (files : Image) : Type 0 where
  pub sound : IsSound files
  pub restarts : Restarts files t
  pub limited : sound.formed.head.limit ≡ limit

-- The step leaves a database of the one tables or of the other.
abbrev pub LeavesEither : ℕ → Tables → Tables → Image → Image → Type 0
LeavesEither limit t next before after = IsDatabase limit t after ⊎ IsDatabase limit next after
