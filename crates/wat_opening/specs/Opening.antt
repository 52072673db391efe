-- What is said of a database that is opened.
use Rattle.std.specs.Prelude.{◌≡◌, []}
use Rattle.wat_disk.specs.Disk.{Image, Told, IsSynced, EachStop}
use Rattle.wat_restore.specs.Restored.{Checkpoint, OnlyPages}
use Rattle.wat_restore.specs.Safe.{IsSafe, Covers}
use Rattle.wat_schema.specs.Tables.{Tables}
use Rattle.wat_replay.specs.State.{State, no_lists}

-- All three files are empty.
pub record AreEmpty (files : Image) : Type 0 where
  pub main : files 0 ≡ []
  pub before : files 1 ≡ []
  pub log : files 2 ≡ []

-- All that the three files read is on the disk.
pub record IsOnDisk (told : Told) : Type 0 where
  pub main : IsSynced told 0
  pub before : IsSynced told 1
  pub log : IsSynced told 2

-- no connection has changes
abbrev pub settled : Tables → State
settled t = record { tables = t; lists = no_lists }

-- The log is as before, and where a stop leaves a checkpoint before, it leaves that one up to then.
pub record LeavesPages (old new : Told) : Type 0 where
  pub others : OnlyPages old.content new.content
  pub stops : (saved : Checkpoint) → IsSafe saved old → EachStop old new (Covers saved)
