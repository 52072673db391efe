-- A history that is serial: each committed transaction does what its statements mean over the tables after the earlier ones.
use Rattle.std.specs.Prelude.{◌≡◌, ℕ, nat_le, Bool, true, ◌||◌, List, [], ◌∷◌, take, Option, Some, None, Ok, unwrap_or}
use Rattle.std.specs.List.{AllByRecursion}
use Rattle.wat_ast.specs.declared.statement.Statement.{Statement}
use Rattle.wat_schema.specs.Tables.{Tables, apply_all}
use Rattle.wat_rules.specs.Changes.{changes_schema}
use Rattle.wat_meaning.specs.declared.reply.Reply.{Reply as Meant}
use Rattle.wat_meaning.specs.declared.reply.Reply.TheVariants as meant
use Rattle.wat_meaning.specs.Meaning.{meaning, has_meaning}
use Rattle.wat_conn.specs.declared.answer.Reply.{Reply}
use Rattle.wat_conn.specs.declared.answer.Reply.TheVariants as reply
use Rattle.wat_conn.specs.declared.answer.Answer.{Answer}
use Rattle.wat_conn.specs.declared.answer.Answer.TheVariants.{Given, Refused}
use Rattle.wat_history.specs.Connection.{Part}
use Rattle.wat_history.specs.History.{Commit, effects}

-- the reply of meaning that a reply says
abbrev pub says_reply : Reply → Option Meant
says_reply (reply.Rows rows) = Some (meant.Rows rows)
says_reply (reply.Inserted count) = Some (meant.Inserted count)
says_reply (reply.Updated count) = Some (meant.Updated count)
says_reply (reply.Deleted count) = Some (meant.Deleted count)
says_reply (reply.Created number) = Some meant.Created
says_reply (reply.Dropped number) = Some meant.Dropped
says_reply r = None

-- The reply of meaning that an answer says. Locked, Deadlock, OpenTransaction, a stop and the answer of a statement that is not served are
-- circumstances, and say none.
abbrev pub says : Answer → Option Meant
says (Given r) = says_reply r
says (Refused refusal) = Some (meant.Refused refusal)
says answer = None

-- whether a statement at this level answers by what it means: from some level on, and a CREATE or DROP at any level
abbrev pub is_serial : ℕ → Part → Statement → Bool
is_serial least p statement = nat_le least p.entry.level || changes_schema statement

-- Over these tables the statement means what the answer says, and the acts are its acts. The serial levels are those from `least` on.
abbrev pub Means : ℕ → Tables → Part → Type 0
Means least t p =
    (statement : Statement) (r : Meant) → p.read ≡ Ok statement → has_meaning statement ≡ true → is_serial least p statement ≡ true → says p.entry.answer ≡ Some r
    → meaning t statement ≡ record { answer = r; acts = p.entry.acts }

-- The acts of the entries are applied in order, from the first tables to the last, and each entry means what it answers over the tables that the
-- earlier ones leave.
abbrev pub Follows : ℕ → Tables → List Part → Tables → Type 0
Follows least t [] after = t ≡ after
Follows least t (p ∷ parts) after = Means least t p × (mid : Tables) × (apply_all p.entry.acts t ≡ Some mid) × Follows least mid parts after

-- the same of transactions, each over the tables after the earlier ones
abbrev pub Serial : ℕ → Tables → List Commit → Tables → Type 0
Serial least base [] t = base ≡ t
Serial least base (commit ∷ history) t = (mid : Tables) × Follows least base commit.parts mid × Serial least mid history t

-- Each open transaction follows on the tables after the commits.
abbrev pub OpenSerial : ℕ → Tables → List (List Part) → Type 0
OpenSerial least t open_ones = AllByRecursion (λ parts. (after : Tables) × Follows least t parts after) open_ones

-- The tables after the first so many transactions. In a serial history each of their acts applies; else the last word stands for nothing.
abbrev pub after : Tables → List Commit → ℕ → Tables
after base history count = unwrap_or (apply_all (effects (take count history)) base) base
