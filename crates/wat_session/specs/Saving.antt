-- What the calls inside say of the log and of the disk.
use Rattle.std.specs.Prelude.{◌≡◌, ◌⊎◌, ℕ, List, [], ◌∷◌, ◌++◌, map, Option, Some, None, if◌then◌else◌}
use Rattle.wat_gate.specs.Bodies.{bodies, IsWhole}
use Rattle.wat_stops.specs.Moments.{moment_after}
use Rattle.wat_commit_log.specs.Logged.{Transaction, body_of}
use Rattle.wat_conn.specs.declared.answer.Reason.{Reason}
use Rattle.wat_conn.specs.declared.answer.Reason.TheVariants.{DiskFault, Memory}

-- the frames of old, with those of these transactions or without
pub record KeepsOrSaves (transactions : List Transaction) (old new : List ℕ) : Type 0 where
  pub whole : IsWhole new
  pub either : (bodies new ≡ bodies old) ⊎ (bodies new ≡ bodies old ++ map body_of transactions)

-- a frame's calls on the disk: it is written and synced, and then its gate
abbrev pub frame_calls : List Transaction → ℕ
frame_calls [] = 0
frame_calls (t ∷ transactions) = 4

-- the disk's moment after these frames were added at this one
abbrev pub moment_by : List Transaction → ℕ → ℕ
moment_by transactions moment = moment_after moment (frame_calls transactions)

-- a session alone stops for the disk or for want of memory
abbrev pub MayStop : Reason → Type 0
MayStop reason = (reason ≡ DiskFault) ⊎ (reason ≡ Memory)
