-- What the calls inside say of a session under way.
use Rattle.std.specs.Prelude.{◌≡◌, ◌+◌, ℕ, List, [], ◌++◌, length, drop, Option}
use Rattle.wat_disk.specs.Disk.{IsSynced}
use Rattle.wat_stops.specs.Commits.{KeepsCommits}
use Rattle.wat_parse.specs.Statements.{statements_of}
use Rattle.wat_conn.specs.declared.answer.Reason.{Reason}
use Rattle.wat_conn.specs.declared.session.Entry.{Entry}
use Rattle.wat_conn.specs.declared.session.TableName.{TableName}
use Rattle.wat_history.specs.Naming.{names_of}
use Rattle.wat_alone.specs.Alone.{State}
use Rattle.wat_session.specs.Session.{AreAnswered, HasCommitted, Setting, acts_in, commits_on, cut_by, transactions_of}

-- The entries of the statements of the text up to a stop, with the moments of their commits, and the names of the tables then.
pub record IsPlayed (s : Setting) (text : List ℕ) (answered : List Entry) (stop : Option Reason) (moments : List ℕ) (names : List TableName) : Type 0 where
  pub last : State
  pub turns : AreAnswered s.base text stop answered last
  pub named : names ≡ names_of s.base (acts_in answered)
  pub leaves : HasCommitted s (transactions_of s.base text answered) (cut_by stop last text (drop (length answered) (statements_of text))) stop moments
  pub stops : s.tells → IsSynced s.entry s.file
      → KeepsCommits (commits_on s (transactions_of s.base text answered) (cut_by stop last text (drop (length answered) (statements_of text))) moments)
