-- The session of one script as one serial history, and what a stop leaves of that history.
use Rattle.std.specs.Prelude.{◌≡◌, List, map, None}
use Rattle.wat_disk.specs.Disk.{IsSynced}
use Rattle.wat_stops.specs.Commits.{Commits, KeepsCommits}
use Rattle.wat_schema.specs.Tables.{Tables}
use Rattle.wat_conn.specs.declared.session.Session.{Session}
use Rattle.wat_history.specs.Cut.{cuts, with_cut}
use Rattle.wat_history.specs.History.{Commit, open_transactions}
use Rattle.wat_history.specs.Serial.{OpenSerial, after}
use Rattle.wat_history.specs.Sessions.{IsSerialSession}
use Rattle.wat_commit_log.specs.Logged.{Restarts}
use Rattle.wat_session.specs.Session.{Setting}

-- The transactions of the history as stops see them: a stop restarts to the tables after the first so many of them, or, where a fault of the
-- disk cut a commit, to those after all with what it would have committed.
abbrev pub history_on : Setting → Session → List Commit → Tables → Commits Tables
history_on s session history last = record {
  entry = s.entry;
  now = s.now;
  Restarts = λ image tables. Restarts (image s.file) tables;
  after = after s.base history;
  moments = session.moments.items;
  cuts = map (with_cut last) (cuts session last);
}

-- The committed transactions of the session are one history, numbered from 1 on, in which each statement, whatever its level, is answered by
-- what it means over the tables that those before it leave.
pub record IsOneHistory (s : Setting) (session : Session) : Type 0 where
  pub history : List Commit
  -- the tables after all of them
  pub last : Tables
  pub serial : IsSerialSession 0 s.base session history last
  -- the transaction that is open where the session ends follows on these, and is in no commit
  pub open_one : OpenSerial 0 last (open_transactions session)
  -- a stop at any moment restarts to the tables after some of them, of which each that was acknowledged by then is one
  pub stops : s.tells → IsSynced s.entry s.file → KeepsCommits (history_on s session history last)
  -- where nothing stopped, restart gives the tables after all
  pub kept : s.tells → session.stop ≡ None → Restarts (s.now.content s.file) last
