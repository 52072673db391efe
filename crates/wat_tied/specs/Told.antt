-- What the transcripts tell of the transactions.
use Rattle.std.specs.Prelude.{◌≡◌, ℕ, false, is_some, List, ◌∷◌, map, length, not, None, IsPermutation}
use Rattle.std.specs.List.{filter, flat_map, range_with_len}
use Rattle.wat_list.specs.Has.{Has}
use Rattle.wat_parse.specs.declared.script.Span.{Span}
use Rattle.wat_history.specs.Connection.{Part, Connection, parts_of, new_connection, connection_after}
use Rattle.wat_schema.specs.Tables.{Tables}
use Rattle.wat_conn.specs.declared.session.Session.{Session}
use Rattle.wat_history.specs.History.{Commit, commits_from, open_parts, entries_of}
use Rattle.wat_history.specs.Plain.{PlainAfterSome}
use Rattle.wat_history.specs.Serial.{Serial, OpenSerial}
use Rattle.wat_steps.specs.State.{ConnectionState, CoreState}

-- the entries of a connection, as its script has them
abbrev pub parts_told : ConnectionState → List Part
parts_told k = parts_of k.script k.transcript

-- where the connection stands by them
abbrev pub stands_told : ConnectionState → Connection
stands_told k = connection_after (parts_told k)

abbrev pub commits_told : ConnectionState → List Commit
commits_told k = commits_from new_connection (parts_told k)

-- the committed transactions of all connections
abbrev pub all_told : CoreState → List Commit
all_told e = flat_map (λ c. commits_told (e.connections c)) (range_with_len 1 e.count)

-- The entries of the open transaction, as the transcript has them. The connection has a transaction open where the transcript has one, but that a
-- statement under way may have opened it. At the end of its script the connection has ended, and what was open is rolled back without an entry.
pub record IsTold (k : ConnectionState) (parts : List Part) : Type 0 where
  pub goes : (span : Span) (more : List Span) → k.left ≡ span ∷ more → k.has_ended ≡ false
  pub open_parts : k.has_ended ≡ false → open_parts (stands_told k) ≡ parts
  pub opens : k.has_ended ≡ false → k.work ≡ None → is_some k.transaction ≡ is_some (stands_told k).transaction

-- The committed transactions of all connections, each once, in the order of their numbers, which are 1, 2, 3 and so on; each has its moment.
pub record IsHistoryTold (e : CoreState) (history : List Commit) : Type 0 where
  pub all : IsPermutation (all_told e) history
  pub numbers : map (λ commit. commit.number) history ≡ range_with_len 1 (length history)
  pub moments : length e.moments ≡ length history

-- Each entry below level 3 is plain, by the schema after some of the commits.
abbrev pub ArePlainTold : CoreState → List Commit → Type 0
ArePlainTold e history = (c : ℕ) (p : Part) → Has p (parts_told (e.connections c)) → PlainAfterSome 3 e.base history p

-- ---- the whole

-- the connections that have not ended
abbrev pub going_on : CoreState → List ℕ
going_on e = filter (λ c. not (e.connections c).has_ended) (range_with_len 1 e.count)

-- what the transcripts of these have open
abbrev pub open_told : CoreState → List (List Part)
open_told e = map (λ c. open_parts (stands_told (e.connections c))) (going_on e)

-- a session has the scripts, transcripts and moments of the state
pub record IsSessionOf (e : CoreState) (s : Session) : Type 0 where
  pub scripts : s.scripts ≡ map (λ c. (e.connections c).script) (range_with_len 1 e.count)
  pub transcripts : entries_of s ≡ map (λ c. (e.connections c).transcript) (range_with_len 1 e.count)
  pub moments : s.moments.items ≡ e.moments

-- The transcripts tell of one history of committed transactions, and it is serial at level 3 from these tables. What is open, until its connection
-- has ended, follows on it. Each entry below level 3 is plain.
pub record IsSerialTold (base : Tables) (e : CoreState) (history : List Commit) : Type 0 where
  pub is_history : IsHistoryTold e history
  pub serial : Serial 3 base history e.committed
  pub open_serial : OpenSerial 3 e.committed (open_told e)
  pub plain : (c : ℕ) (p : Part) → Has p (parts_told (e.connections c)) → PlainAfterSome 3 base history p
