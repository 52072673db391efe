-- A session over the tables at its entry.
use Rattle.std.specs.Prelude.{◌≡◌, ℕ, List, length}
use Rattle.std.specs.List.{AllByRecursion}
use Rattle.wat_schema.specs.Tables.{Tables}
use Rattle.wat_conn.specs.declared.session.Session.{Session}
use Rattle.wat_history.specs.History.{Commit, IsHistory, TranscriptsFit, connections_of, effects}
use Rattle.wat_history.specs.Serial.{Serial}
use Rattle.wat_history.specs.Plain.{PlainAfterSome}
use Rattle.wat_history.specs.Naming.{names_of}

-- The transcripts fit the scripts. The transactions that the commit numbers order are one history, and it is serial over these tables: each
-- statement at a level from `least` on, and each CREATE and DROP, is answered in it by what it means; the others do what is plain.
pub record IsSerialSession (least : ℕ) (base : Tables) (s : Session) (history : List Commit) (after : Tables) : Type 0 where
  pub fits : TranscriptsFit s
  pub is_history : IsHistory s history
  pub serial : Serial least base history after
  pub plain : AllByRecursion (AllByRecursion (PlainAfterSome least base history)) (connections_of s)
  pub moments : length s.moments.items ≡ length history
  pub names : s.names ≡ names_of base (effects history)
