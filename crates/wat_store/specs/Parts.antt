-- What is known of a disk, the objects on its pages, and its log.
use Rattle.std.specs.Prelude.{◌≡◌, List}
use Rattle.wat_disk.specs.Disk.{Told, IsSynced, EachStop}
use Rattle.wat_restore.specs.Restored.{Checkpoint}
use Rattle.wat_restore.specs.Safe.{IsSafe}
use Rattle.wat_pages.specs.Pages.{limit_of, stored_of, IsPagesOf}
use Rattle.wat_schema.specs.Tables.{Tables}
use Rattle.wat_log_record.specs.declared.log_record.LogRecord.{LogRecord}
use Rattle.wat_log.specs.declared.record_log.Log.{Log}
use Rattle.wat_log.specs.Log.{HasNoted, IsOpenLog}
use Rattle.wat_replay.specs.State.{State, IsLawful}
use Rattle.wat_keeping.specs.Durable.{LeavesEither}
use Rattle.wat_keeping.specs.Kept.{IsKept}
use Rattle.wat_objects.specs.declared.objects.Objects.{Objects}
use Rattle.wat_objects.specs.Objects.{pages_of, Holds}

-- The pages and the log read as their calls left them.
pub record AreOpen (told : Told) (objects : Objects) (log : Log) : Type 0 where
  pub pages : IsPagesOf told (pages_of objects)
  pub records : IsOpenLog told log

-- The objects hold this state on their pages. What is noted and not flushed leads to it, and whatever a stop now may leave is a database of the committed tables.
pub record IsStore (told : Told) (objects : Objects) (log : Log) (s : State) (t : Tables) : Type 0 where
  pub holds : Holds told objects s
  pub records : IsOpenLog told log
  pub noted : List LogRecord
  pub has : HasNoted log noted
  pub kept : IsKept (limit_of (pages_of objects)) (stored_of (pages_of objects)) told noted s t
  pub lawful : IsLawful s

-- The objects hold this lawful state on their pages. Whatever a stop now may leave has the last checkpoint, and the log as it reads; whether the one agrees with the other isn't said.
pub record HoldsSafe (told : Told) (objects : Objects) (s : State) : Type 0 where
  pub holds : Holds told objects s
  pub lawful : IsLawful s
  pub saved : Checkpoint
  pub safe : IsSafe saved told
  pub counted : saved.count ≡ stored_of (pages_of objects)
  pub logged : IsSynced told 2

-- a stop from the one moment to the other leaves a database of the one tables or of the others, with the page limit of these objects
abbrev pub StopsAt : Told → Told → Objects → Tables → Tables → Type 0
StopsAt old new objects t after = EachStop old new (LeavesEither (limit_of (pages_of objects)) t after)
