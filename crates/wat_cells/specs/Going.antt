-- What a call on pages leaves beside its own pages.
use Rattle.std.specs.Prelude.{◌≡◌}
use Rattle.wat_disk.specs.Disk.{Told, EachStop}
use Rattle.wat_restore.specs.Restored.{Checkpoint, OnlyPages}
use Rattle.wat_restore.specs.Safe.{IsSafe, Covers}
use Rattle.wat_pages.specs.declared.pages.Pages.{Pages}
use Rattle.wat_pages.specs.Pages.{limit_of, stored_of, header_of, IsPagesOf}

-- Whatever a call answers: the log, the limit, the last checkpoint's count and header are as before, and a stop within it leaves the last checkpoint.
pub record Goes (old new : Told) (before after : Pages) : Type 0 where
  pub others : OnlyPages old.content new.content
  pub limit : limit_of after ≡ limit_of before
  pub stored : stored_of after ≡ stored_of before
  pub header : header_of after ≡ header_of before
  pub stops : (saved : Checkpoint) → IsSafe saved old → EachStop old new (Covers saved)

-- Where it is Ok: the files read as it left them, and a stop after it leaves the last checkpoint.
pub record Keeps (old new : Told) (after : Pages) : Type 0 where
  pub known : IsPagesOf new after
  pub safe : (saved : Checkpoint) → IsSafe saved old → IsSafe saved new
