-- A session of one script over the tables of a log.
use Rattle.std.specs.Prelude.{◌≡◌, ◌≢◌, IfSome, ℕ, ◌+◌, ◌≤◌, List, [], ◌∷◌, ◌++◌, length, take, drop, map, Option, Some, None}
use Rattle.std.specs.List.{flat_map}
use Rattle.wat_list.specs.Reservation.{Reservation}
use Rattle.wat_faults.specs.Faults.{Rose}
use Rattle.wat_disk.specs.Disk.{Told, SameOthers, IsSynced}
use Rattle.wat_stops.specs.Commits.{Commits, KeepsCommits}
use Rattle.wat_stops.specs.Moments.{AreMoments, last_moment, moments_after}
use Rattle.wat_parse.specs.declared.script.Span.{Span}
use Rattle.wat_parse.specs.Parsing.{parsed_at}
use Rattle.wat_parse.specs.Statements.{statements_of}
use Rattle.wat_value.specs.declared.change.Act.{Act}
use Rattle.wat_schema.specs.Tables.{Tables}
use Rattle.wat_conn.specs.declared.answer.Answer.TheVariants.{Stopped}
use Rattle.wat_conn.specs.declared.answer.Reason.{Reason}
use Rattle.wat_conn.specs.declared.answer.Reason.TheVariants.{DiskFault}
use Rattle.wat_conn.specs.declared.session.Entry.{Entry}
use Rattle.wat_conn.specs.declared.session.Session.{Session}
use Rattle.wat_history.specs.Connection.{parts_of, span_of}
use Rattle.wat_history.specs.Naming.{names_of}
use Rattle.wat_commit_log.specs.Logged.{Transaction, Restarts, all_acts}
use Rattle.wat_alone.specs.Alone.{State, begun, made, turn}
use Rattle.wat_alone.specs.Committing.{committed_by, framed, saved}
use Rattle.wat_turns.specs.Turns.{Lead, committed_from}
use Rattle.wat_session.specs.Saving.{MayStop, frame_calls}

-- one text, within the limit of scripts
pub record IsOneScript (scripts : List (List ℕ)) : Type 0 where
  pub text : List ℕ
  pub is : scripts ≡ text ∷ []
  pub short : length text ≤ 16777216

-- What a session is over.
pub record Setting : Type 1 where
  -- the disk tells what its files hold
  pub tells : Type 0
  -- the disk at entry, and now
  pub entry : Told
  pub now : Told
  -- the disk's moment when the log was open
  pub start : ℕ
  -- the number of the log's file
  pub file : ℕ
  -- the tables that restart gives at entry
  pub base : Tables

-- ---- what the answered entries commit

-- the transactions that the entries of a script commit over these tables
abbrev pub transactions_of : Tables → List ℕ → List Entry → List Transaction
transactions_of base text entries = committed_from (begun base) (parts_of text entries)

-- the tables after these transactions
abbrev pub tables_after : Tables → List Transaction → Tables
tables_after base transactions = made (all_acts transactions) base

-- what the acts of these entries do to the names
abbrev pub acts_in : List Entry → List Act
acts_in entries = flat_map (λ e. e.acts) entries

-- the transaction that the first of these statements commits, if it commits one
abbrev pub committed_next : State → List ℕ → List Span → List Transaction
committed_next s text [] = []
committed_next s text (span ∷ spans) = committed_by (turn s (parsed_at text span))

-- the commit that a disk fault has cut, where the connection stands so before these statements
abbrev pub cut_by : Option Reason → State → List ℕ → List Span → List Transaction
cut_by (Some DiskFault) s text spans = committed_next s text spans
cut_by stop s text spans = []

-- ---- the entries

-- the entry of a statement that the stop answers
abbrev pub stopped_at : Reason → Span → Entry
stopped_at reason span = record { from = span.from; to = span.to; level = 0; answer = Stopped reason; acts = [] }

-- the entries of the statements that were not answered
abbrev pub unanswered : Option Reason → List Span → List Entry
unanswered None spans = []
unanswered (Some reason) spans = map (stopped_at reason) spans

-- These are the entries of the first statements of the text, each with its turn, up to this state; where nothing stopped, of all.
pub record AreAnswered (base : Tables) (text : List ℕ) (stop : Option Reason) (answered : List Entry) (last : State) : Type 0 where
  pub spans : map span_of answered ≡ take (length answered) (statements_of text)
  pub within : length answered ≤ length (statements_of text)
  pub whole : stop ≡ None → length answered ≡ length (statements_of text)
  pub turns : Lead (begun base) (parts_of text answered) last

-- ---- the commits on the disk

-- The commits as stops see them: a stop restarts to the tables after so many of these transactions, or after all and the cut one.
abbrev pub commits_on : Setting → List Transaction → List Transaction → List ℕ → Commits Tables
commits_on s transactions cut moments = record {
  entry = s.entry;
  now = s.now;
  Restarts = λ image tables. Restarts (image s.file) tables;
  after = λ j. tables_after s.base (take j transactions);
  moments = moments;
  cuts = map (λ one. tables_after s.base (transactions ++ one ∷ [])) cut;
}

-- the calls on the disk that a commit makes: none where it has no frame
abbrev pub commit_calls : Transaction → ℕ
commit_calls t = frame_calls (framed t)

-- What a session leaves that has committed these transactions at these moments, and was stopped or not.
pub record HasCommitted (s : Setting) (transactions cut : List Transaction) (stop : Option Reason) (moments : List ℕ) : Type 0 where
  -- each commit has its moment
  pub commits : length moments ≡ length transactions
  pub order : AreMoments s.entry.moment s.now.moment moments
  -- It makes a commit's calls on the disk, and no others: each moment is that after the commit's last call, and where the disk
  -- did not stop it, that is the disk's moment now.
  pub noted : moments ≡ moments_after s.start (map commit_calls transactions)
  pub calls : stop ≢ Some DiskFault → s.now.moment ≡ last_moment s.start moments
  pub cut_calls : stop ≡ Some DiskFault → s.now.moment ≤ last_moment s.start moments + 4
  pub reason : IfSome stop MayStop
  pub disk_fault : stop ≡ Some DiskFault → Rose s.entry.faults s.now.faults
  -- it stops for the disk only at a commit that has a frame
  pub at_commit : stop ≡ Some DiskFault → saved cut ≢ []
  pub never_falls : s.entry.faults ≤ s.now.faults
  pub faults_stay : stop ≢ Some DiskFault → s.now.faults ≡ s.entry.faults
  pub others : SameOthers s.file s.entry.content s.now.content
  -- where nothing stopped, restart gives the tables after all transactions
  pub kept : s.tells → stop ≡ None → Restarts (s.now.content s.file) (tables_after s.base transactions)

-- The session of the one script: each statement has its turn over the tables, or the stop, and what is committed is on the disk.
pub record IsSession (s : Setting) (texts : List (List ℕ)) (session : Session) : Type 0 where
  pub scripts : session.scripts ≡ texts
  pub text : List ℕ
  pub one_text : texts ≡ text ∷ []
  pub transcript : Reservation Entry
  pub one_transcript : session.transcripts ≡ transcript ∷ []
  pub answered : List Entry
  pub last : State
  pub turns : AreAnswered s.base text session.stop answered last
  pub entries : transcript.items ≡ answered ++ unanswered session.stop (drop (length answered) (statements_of text))
  pub names : session.names ≡ names_of s.base (acts_in answered)
  pub leaves : HasCommitted s (transactions_of s.base text answered) (cut_by session.stop last text (drop (length answered) (statements_of text))) session.stop session.moments.items
  -- a stop at any moment leaves a log that keeps each commit acknowledged by then
  pub stops : s.tells → IsSynced s.entry s.file
      → KeepsCommits (commits_on s (transactions_of s.base text answered) (cut_by session.stop last text (drop (length answered) (statements_of text))) session.moments.items)
