-- A gate log, and what it knows of its file.
use Rattle.std.specs.Prelude.{◌≡◌, ℕ, ◌+◌, ◌<◌, ◌^◌, List, [], length, slice_index_or}
use Rattle.wat_disk.specs.Disk.{Told}
use Rattle.wat_gate.specs.declared.gate_log.GateLog.{GateLog}
use Rattle.wat_gate.specs.declared.gate_log.GatePlace.{GatePlace}
use Rattle.wat_gate.specs.Bodies.{bodies, end_of, IsWhole, IsAtGate}

-- the number of its file
abbrev pub file_of : GateLog → ℕ
file_of log = log.file.0

-- how many frames it counts
abbrev pub frames_of : GateLog → ℕ
frames_of log = log.frames

-- the bodies of its frames
abbrev pub bodies_in : Told → GateLog → List (List ℕ)
bodies_in told log = bodies (told.content (file_of log))

-- the body of frame i
abbrev pub body_at : Told → GateLog → ℕ → List ℕ
body_at told log i = slice_index_or (bodies_in told log) i []

-- that gate of the log stands at that place
abbrev pub IsGateOf : Told → GateLog → GatePlace → Type 0
IsGateOf told log place = IsAtGate (told.content (file_of log)) place.at place.gate

-- the log counts the frames of its file, and has the place of the closed gate behind them
pub record IsLogOf (told : Told) (log : GateLog) : Type 0 where
  pub whole : IsWhole (told.content (file_of log))
  pub frames : log.frames ≡ length (bodies_in told log)
  pub end : log.end ≡ end_of (told.content (file_of log))

-- The log ends below 2^64 with a frame of this body too, so that no write of the frame goes too far.
abbrev pub HasRoom : GateLog → List ℕ → Type 0
HasRoom log body = log.end + 6 + length body < 2 ^ 64
