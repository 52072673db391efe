-- One connection alone: each statement means what it is answered over the tables with its own open changes.
use Rattle.std.specs.Prelude.{◌≡◌, ⊤, ℕ, ◌+◌, List, [], ◌∷◌, Some}
use Rattle.wat_schema.specs.Tables.{Tables, apply_all}
use Rattle.wat_conn.specs.declared.answer.Reply.TheVariants.{Committed, Created, Dropped, RolledBack}
use Rattle.wat_conn.specs.declared.answer.Answer.{Answer}
use Rattle.wat_conn.specs.declared.answer.Answer.TheVariants.{Given, Deadlock}
use Rattle.wat_history.specs.Connection.{Part}
use Rattle.wat_history.specs.Serial.{Means}

-- the tables after the commits, those with the changes of the open transaction, and how many commits there were
pub record Stage : Type 0 where
  pub committed : Tables
  pub now : Tables
  pub commits : ℕ

-- where a connection begins over these tables
abbrev pub begun : Tables → Stage
begun base = record { committed = base; now = base; commits = 0 }

-- what an entry leaves whose acts led to these tables
abbrev pub staged : Answer → Tables → Stage → Stage
staged (Given (Committed number)) after stage = record { committed = after; now = after; commits = number }
staged (Given (Created number)) after stage = record { committed = after; now = after; commits = number }
staged (Given (Dropped number)) after stage = record { committed = after; now = after; commits = number }
staged (Given RolledBack) after stage = record stage { now = stage.committed }
staged (Deadlock cycle) after stage = record stage { now = stage.committed }
staged answer after stage = record stage { now = after }

-- a commit has the next number
abbrev pub HasNextNumber : ℕ → Answer → Type 0
HasNextNumber commits (Given (Committed number)) = number ≡ commits + 1
HasNextNumber commits (Given (Created number)) = number ≡ commits + 1
HasNextNumber commits (Given (Dropped number)) = number ≡ commits + 1
HasNextNumber commits answer = ⊤

-- Each statement means what it is answered, at every level, and its acts apply.
abbrev pub IsAlone : Stage → List Part → Stage → Type 0
IsAlone stage [] last = stage ≡ last
IsAlone stage (p ∷ parts) last =
    Means 0 stage.now p × (after : Tables) × (apply_all p.entry.acts stage.now ≡ Some after) × HasNextNumber stage.commits p.entry.answer
    × IsAlone (staged p.entry.answer after stage) parts last
