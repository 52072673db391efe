-- The history of a session: its committed transactions, in the order of their numbers.
use Rattle.std.specs.Prelude.{◌≡◌, ⊤, ℕ, List, [], ◌∷◌, ◌++◌, map, length, Option, IsPermutation}
use Rattle.std.specs.List.{flat_map, range_with_len, zip}
use Rattle.std.specs.Option.{option_map_or}
use Rattle.wat_value.specs.declared.change.Act.{Act}
use Rattle.wat_conn.specs.declared.answer.Reason.{Reason}
use Rattle.wat_conn.specs.declared.answer.Reply.TheVariants.{Committed, Created, Dropped}
use Rattle.wat_conn.specs.declared.answer.Answer.{Answer}
use Rattle.wat_conn.specs.declared.answer.Answer.TheVariants.{Given}
use Rattle.wat_conn.specs.declared.session.Entry.{Entry}
use Rattle.wat_conn.specs.declared.session.Session.{Session}
use Rattle.wat_history.specs.Connection.{Part, Connection, parts_of, new_connection, connection_after, next}
use Rattle.wat_history.specs.Fits.{Fits}

-- a committed transaction: its number, and its entries in order
pub record Commit : Type 0 where
  pub number : ℕ
  pub parts : List Part

-- the entries of the open transaction
abbrev pub open_parts : Connection → List Part
open_parts c = option_map_or (λ t. t.parts) c.transaction []

-- what an entry commits: the open transaction, or itself alone where it is that of a CREATE or a DROP
abbrev pub committed_by : Connection → Part → Answer → List Commit
committed_by c p (Given (Committed number)) = record { number = number; parts = open_parts c } ∷ []
committed_by c p (Given (Created number)) = record { number = number; parts = p ∷ [] } ∷ []
committed_by c p (Given (Dropped number)) = record { number = number; parts = p ∷ [] } ∷ []
committed_by c p answer = []

abbrev pub commits_from : Connection → List Part → List Commit
commits_from c [] = []
commits_from c (p ∷ parts) = committed_by c p p.entry.answer ++ commits_from (next c p) parts

-- ---- all connections of a session

abbrev pub entries_of : Session → List (List Entry)
entries_of s = map (λ transcript. transcript.items) s.transcripts

-- the entries of each connection, as its script has them
abbrev pub connections_of : Session → List (List Part)
connections_of s = map (λ x. parts_of x.0 x.1) (zip s.scripts (entries_of s))

abbrev pub commits_of : Session → List Commit
commits_of s = flat_map (commits_from new_connection) (connections_of s)

-- the transactions that are open where the entries end, of each connection
abbrev pub open_transactions : Session → List (List Part)
open_transactions s = map (λ parts. open_parts (connection_after parts)) (connections_of s)

-- Each script has its transcript, which fits.
abbrev pub EachFits : Option Reason → List (List ℕ) → List (List Entry) → Type 0
EachFits stop [] [] = ⊤
EachFits stop (text ∷ texts) (entries ∷ more) = Fits text entries stop × EachFits stop texts more
EachFits stop texts more = ⊥

abbrev pub TranscriptsFit : Session → Type 0
TranscriptsFit s = EachFits s.stop s.scripts (entries_of s)

-- ---- the history

-- The committed transactions of all connections, each once, in the order of their numbers, which are 1, 2, 3 and so on.
pub record IsHistory (s : Session) (history : List Commit) : Type 0 where
  pub all : IsPermutation (commits_of s) history
  pub numbers : map (λ commit. commit.number) history ≡ range_with_len 1 (length history)

-- what a transaction does: the acts of all its entries in order
abbrev pub effect : List Part → List Act
effect parts = flat_map (λ p. p.entry.acts) parts

-- what these transactions do, one after another
abbrev pub effects : List Commit → List Act
effects history = flat_map (λ commit. effect commit.parts) history
