-- What the calls of a log and of pages promise of their files, as one fact each.
use Rattle.std.specs.Prelude.{◌≡◌, ℕ, List, [], ◌∷◌, ◌++◌, length}
use Rattle.wat_disk.specs.Disk.{Told, IsSynced, EachStop, InFile, SameOthers}
use Rattle.wat_gate.specs.Bodies.{bodies, frames_len, IsWhole, KeepsOrAdds}
use Rattle.wat_restore.specs.Head.{Head}
use Rattle.wat_restore.specs.Restored.{Checkpoint, OnlyPages}
use Rattle.wat_restore.specs.Safe.{IsSafe, Covers, CoversEither}
use Rattle.wat_replay.specs.State.{State}
use Rattle.wat_keeping.specs.Durable.{Saves}

-- A stop within the call leaves each checkpoint covered that was.
abbrev pub CoversPages : Told → Told → Type 0
CoversPages old new = (saved : Checkpoint) → IsSafe saved old → EachStop old new (Covers saved)

-- The call has changed pages alone, and each checkpoint is as safe as it was.
pub record ChangesPages (old new : Told) : Type 0 where
  pub others : OnlyPages old.content new.content
  pub safe : (saved : Checkpoint) → IsSafe saved old → IsSafe saved new

-- A stop within an append leaves the log with the body or without it.
abbrev pub MayAppend : List ℕ → Told → Told → Type 0
MayAppend body old new = IsSynced old 2 → EachStop old new (InFile 2 (KeepsOrAdds body))

-- The body is in the log, and on the disk.
pub record Appends (body : List ℕ) (old new : Told) : Type 0 where
  pub synced : IsSynced new 2
  pub whole : IsWhole (new.content 2)
  pub added : bodies (new.content 2) ≡ bodies (old.content 2) ++ body ∷ []
  pub others : SameOthers 2 old.content new.content

-- A stop within a checkpoint leaves the last one, which had so many pages, or the next.
abbrev pub MaySave : ℕ → Checkpoint → Told → Told → Type 0
MaySave stored next old new = (saved : Checkpoint) → IsSafe saved old → saved.count ≡ stored → EachStop old new (CoversEither saved next)

-- The next checkpoint stands for the state, with all frames of the log behind it.
pub record SavesAll (next : Checkpoint) (head : Head) (limit : ℕ) (log : List (List ℕ)) (s : State) : Type 0 where
  pub saves : Saves next head s
  pub frames : head.frames ≡ length log
  pub place : head.place ≡ frames_len log
  pub limited : head.limit ≡ limit

-- The next checkpoint is safe, and no other file was changed.
pub record SavesPages (next : Checkpoint) (old new : Told) : Type 0 where
  pub others : OnlyPages old.content new.content
  pub safe : IsSafe next new
