-- What restart is, for any bytes of the log.
use Rattle.std.specs.Prelude.{◌≡◌, ℕ, List, Some}
use Rattle.wat_schema.specs.Tables.{Tables, apply_all}
use Rattle.wat_gate.specs.Bodies.{bodies}
use Rattle.wat_replay.specs.Committed as committed
use Rattle.wat_commit_log.specs.Logged.{Transaction, acts_of, IsFramed, Restarts, AddsFrame}

-- Restart gives the same tables over the same bytes.
abbrev pub RestartsOnce : List ℕ → Type 0
RestartsOnce content = (t u : Tables) → Restarts content t → Restarts content u → t ≡ u

-- These are the tables that the records of the log have committed.
abbrev pub IsCommitted : List ℕ → Tables → Type 0
IsCommitted content t = Restarts content t → committed.Restarts (bodies content) t

-- A frame more is a transaction more: restart gives the tables that its acts make.
abbrev pub FrameAddsActs : List ℕ → List ℕ → Tables → Tables → Transaction → Type 0
FrameAddsActs old new t u transaction = Restarts old t → IsFramed transaction → apply_all (acts_of transaction) t ≡ Some u → AddsFrame transaction old new → Restarts new u
