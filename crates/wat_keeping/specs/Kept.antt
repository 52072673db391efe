-- A store as its files know it.
use Rattle.std.specs.Prelude.{◌≡◌, ℕ, List, Some}
use Rattle.std.specs.List.{AllByRecursion}
use Rattle.wat_disk.specs.Disk.{Told}
use Rattle.wat_restore.specs.Head.{Head}
use Rattle.wat_restore.specs.Restored.{Checkpoint}
use Rattle.wat_schema.specs.Tables.{Tables}
use Rattle.wat_log_record.specs.declared.log_record.LogRecord.{LogRecord}
use Rattle.wat_replay.specs.State.{State, undone}
use Rattle.wat_replay.specs.Replay.{AppliesAll}
use Rattle.wat_replay.specs.Committed.{CommitsNothing}
use Rattle.wat_keeping.specs.Durable.{IsDurable, Makes}

-- Whatever a stop now may leave of the files, it has this page limit and restarts to these tables. Records were noted since, which commit nothing and lead to a state.
pub record IsKept (limit stored : ℕ) (told : Told) (noted : List LogRecord) (s : State) (t : Tables) : Type 0 where
  pub saved : Checkpoint
  pub head : Head
  pub log : List (List ℕ)
  pub flushed : State
  pub durable : IsDurable saved log told
  pub makes : Makes saved head log flushed
  pub limited : head.limit ≡ limit
  -- how many pages the last checkpoint has, as the pages know it
  pub counted : saved.count ≡ stored
  pub committed : undone flushed ≡ Some t
  pub unflushed : AppliesAll noted flushed s
  pub quiet : AllByRecursion CommitsNothing noted
