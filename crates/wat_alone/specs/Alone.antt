-- One connection alone over the tables: what each statement is answered, the acts that it makes, and what it leaves.
use Rattle.std.specs.Prelude.{ℕ, ◌+◌, Bool, true, false, List, [], ◌∷◌, ◌++◌, Option, None, Some, Result, Ok, Err, unwrap_or, is_some, if◌then◌else◌}
use Rattle.wat_value.specs.declared.change.Change.{Change}
use Rattle.wat_value.specs.declared.change.Act.{Act}
use Rattle.wat_ast.specs.declared.statement.Statement.{Statement}
use Rattle.wat_ast.specs.declared.statement.Statement.TheVariants.{CreateTable, CreateIndex, DropTable, Insert, Update, Delete, Select, Commit, Rollback}
use Rattle.wat_schema.specs.declared.refusal.Refusal.TheVariants.{Syntax}
use Rattle.wat_schema.specs.Tables.{Tables, apply, apply_change, inverse}
use Rattle.wat_meaning.specs.declared.reply.Meaning.{Meaning}
use Rattle.wat_meaning.specs.declared.reply.Reply.{Reply as Meant}
use Rattle.wat_meaning.specs.declared.reply.Reply.TheVariants as meant
use Rattle.wat_meaning.specs.Meaning.{meaning}
use Rattle.wat_conn.specs.declared.answer.Answer.{Answer}
use Rattle.wat_conn.specs.declared.answer.Answer.TheVariants.{Given, Refused, OpenTransaction, Unsupported}
use Rattle.wat_conn.specs.declared.answer.Reply.TheVariants as reply
use Rattle.wat_commit_log.specs.Pending.{changes_in, fit}

-- What the statements so far have made.
pub record State : Type 0 where
  -- the tables as the open transaction sees them
  pub tables : Tables
  -- the changes of the open transaction, if one is open
  pub changes : Option (List Change)
  -- how many transactions were committed
  pub commits : ℕ

-- before any statement
abbrev pub begun : Tables → State
begun t = record { tables = t; changes = None; commits = 0 }

-- what the open transaction has changed
abbrev pub pending : State → List Change
pending s = unwrap_or s.changes []

-- the tables with these acts made one after another, each where it applies
abbrev pub made : List Act → Tables → Tables
made [] t = t
made (act ∷ acts) t = made acts (unwrap_or (apply act t) t)

-- the tables with these changes taken back, the last one first
abbrev pub taken_back : List Change → Tables → Tables
taken_back [] t = t
taken_back (change ∷ changes) t = let later = taken_back changes t in unwrap_or (apply_change (inverse change) later) later

-- What comes of a statement: its answer, the acts that it makes, the changes of the transaction that it commits, and what is so from then on.
pub record Turn : Type 0 where
  pub answer : Answer
  pub acts : List Act
  pub commits : Option (List Change)
  pub next : State

-- nothing is done
abbrev pub stays : State → Answer → Turn
stays s answer = record { answer = answer; acts = []; commits = None; next = s }

-- the answer that says a reply of meaning; what is created or dropped is so by the commit of this number
abbrev pub answer_saying : ℕ → Meant → Answer
answer_saying number (meant.Rows rows) = Given (reply.Rows rows)
answer_saying number (meant.Inserted n) = Given (reply.Inserted n)
answer_saying number (meant.Updated n) = Given (reply.Updated n)
answer_saying number (meant.Deleted n) = Given (reply.Deleted n)
answer_saying number meant.Created = Given (reply.Created number)
answer_saying number meant.Dropped = Given (reply.Dropped number)
answer_saying number (meant.Refused refusal) = Refused refusal

abbrev pub is_refused : Meant → Bool
is_refused (meant.Refused refusal) = true
is_refused r = false

-- INSERT, UPDATE, DELETE and SELECT with this meaning open a transaction and do what they mean, unless a frame would not take the changes of the
-- transaction any more.
abbrev pub change_turn : State → Meaning → Turn
change_turn s m = let all = pending s ++ changes_in m.acts in
    if fit all then record {
      answer = answer_saying 0 m.answer;
      acts = m.acts;
      commits = None;
      next = record { tables = made m.acts s.tables; changes = Some all; commits = s.commits };
    } else stays s Unsupported

-- CREATE and DROP with this meaning are a transaction of their own.
abbrev pub schema_turn : State → Meaning → Turn
schema_turn s m =
    if is_refused m.answer then stays s (answer_saying 0 m.answer) else record {
      answer = answer_saying (s.commits + 1) m.answer;
      acts = m.acts;
      commits = None;
      next = record { tables = made m.acts s.tables; changes = s.changes; commits = s.commits + 1 };
    }

-- They are refused while a transaction is open.
abbrev pub alone_turn : State → Statement → Turn
alone_turn s x = if is_some s.changes then stays s (OpenTransaction 1) else schema_turn s (meaning s.tables x)

abbrev pub commit_turn : State → Option (List Change) → Turn
commit_turn s None = stays s (Given reply.NothingToCommit)
commit_turn s (Some changes) = record {
  answer = Given (reply.Committed (s.commits + 1));
  acts = [];
  commits = Some changes;
  next = record s { changes = None; commits = s.commits + 1 };
}

abbrev pub rollback_turn : State → Turn
rollback_turn s = record { answer = Given reply.RolledBack; acts = []; commits = None; next = record s { tables = taken_back (pending s) s.tables; changes = None } }

-- The statements on savepoints, on checkpoints and on options are not served.
abbrev pub turn_of : State → Statement → Turn
turn_of s (CreateTable name elements) = alone_turn s (CreateTable name elements)
turn_of s (CreateIndex name table columns) = alone_turn s (CreateIndex name table columns)
turn_of s (DropTable name) = alone_turn s (DropTable name)
turn_of s (Insert table columns source) = change_turn s (meaning s.tables (Insert table columns source))
turn_of s (Update table sets filter) = change_turn s (meaning s.tables (Update table sets filter))
turn_of s (Delete table filter) = change_turn s (meaning s.tables (Delete table filter))
turn_of s (Select q) = change_turn s (meaning s.tables (Select q))
turn_of s Commit = commit_turn s s.changes
turn_of s Rollback = rollback_turn s
turn_of s x = stays s Unsupported

-- what comes of a text that was read as this statement, or that goes wrong at this place
abbrev pub turn : State → Result Statement ℕ → Turn
turn s (Err at) = stays s (Refused (Syntax at))
turn s (Ok x) = turn_of s x
