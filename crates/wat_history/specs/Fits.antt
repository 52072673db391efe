-- The answers that the statements of a script may have.
use Rattle.std.specs.Prelude.{◌≡◌, ⊤, ◌⊎◌, ℕ, ◌==◌, Bool, true, false, not, ◌&&◌, ◌||◌, is_some, List, [], ◌∷◌, map, Option, Some, Result, Ok, Err}
use Rattle.std.specs.List.{AllByRecursion}
use Rattle.std.specs.Option.{option_map_or}
use Rattle.std.specs.Str.{bytes_eq}
use Rattle.wat_value.specs.declared.change.Act.{Act}
use Rattle.wat_ast.specs.declared.statement.Statement.{Statement}
use Rattle.wat_ast.specs.declared.statement.Statement.TheVariants as s
use Rattle.wat_schema.specs.declared.refusal.Refusal.{Refusal}
use Rattle.wat_schema.specs.declared.refusal.Refusal.TheVariants as refusal
use Rattle.wat_schema.specs.Catalog.{Name}
use Rattle.wat_rules.specs.Changes.{changes_schema}
use Rattle.wat_meaning.specs.Meaning.{has_meaning}
use Rattle.wat_parse.specs.Statements.{statements_of}
use Rattle.wat_conn.specs.declared.answer.Reason.{Reason}
use Rattle.wat_conn.specs.declared.answer.Reply.{Reply}
use Rattle.wat_conn.specs.declared.answer.Reply.TheVariants as reply
use Rattle.wat_conn.specs.declared.answer.Answer.{Answer}
use Rattle.wat_conn.specs.declared.answer.Answer.TheVariants.{Given, Refused, Locked, Deadlock, OpenTransaction, Unsupported, Stopped}
use Rattle.wat_conn.specs.declared.session.Entry.{Entry}
use Rattle.wat_history.specs.Connection.{Part, Connection, span_of, parts_of, new_connection, next, has_savepoint, undoing}

-- INSERT, UPDATE, DELETE and SELECT
abbrev pub is_of_rows : Statement → Bool
is_of_rows statement = has_meaning statement && not (changes_schema statement)

-- the open transaction has a savepoint of the name
abbrev pub can_go_back : Connection → Name → Bool
can_go_back c name = option_map_or (has_savepoint name) c.transaction false

-- no transaction of the connection is open
abbrev pub is_idle : Connection → Bool
is_idle c = not (is_some c.transaction)

-- the replies that a statement may have
abbrev pub replies : Connection → Statement → Reply → Bool
replies c (s.CreateTable name elements) (reply.Created number) = is_idle c
replies c (s.CreateIndex name table columns) (reply.Created number) = is_idle c
replies c (s.DropTable name) (reply.Dropped number) = is_idle c
replies c (s.Insert table columns source) (reply.Inserted count) = true
replies c (s.Update table sets filter) (reply.Updated count) = true
replies c (s.Delete table filter) (reply.Deleted count) = true
replies c (s.Select q) (reply.Rows rows) = true
replies c s.Commit (reply.Committed number) = not (is_idle c)
replies c s.Commit reply.NothingToCommit = is_idle c
replies c s.Rollback reply.RolledBack = true
replies c (s.Savepoint name) reply.Savepoint = true
replies c (s.RollbackTo name) reply.BackToSavepoint = can_go_back c name
replies c (s.Release name) reply.Released = can_go_back c name
replies c s.Checkpoint reply.Checkpointed = true
replies c (s.SetLevel level) reply.OptionSet = true
replies c (s.SetBlocking on) reply.OptionSet = true
replies c statement r = false

abbrev pub is_no_savepoint : Name → Refusal → Bool
is_no_savepoint name (refusal.NoSavepoint other) = bytes_eq name other
is_no_savepoint name r = false

abbrev pub is_no_syntax : Refusal → Bool
is_no_syntax (refusal.Syntax at) = false
is_no_syntax r = true

-- the refusals that it may have: a CREATE or DROP none but OpenTransaction in an open transaction
abbrev pub refuses : Connection → Statement → Refusal → Bool
refuses c (s.RollbackTo name) r = is_no_savepoint name r && not (can_go_back c name)
refuses c (s.Release name) r = is_no_savepoint name r && not (can_go_back c name)
refuses c statement r = has_meaning statement && is_no_syntax r && (is_idle c || is_of_rows statement)

-- the answers that it may have before a stop; any statement may be one that is not served
abbrev pub answers : Connection → Statement → Answer → Bool
answers c statement (Given r) = replies c statement r
answers c statement (Refused r) = refuses c statement r
answers c statement (Locked against) = is_of_rows statement
answers c statement (Deadlock cycle) = is_of_rows statement
answers c statement (OpenTransaction conn) = changes_schema statement
answers c statement Unsupported = true
answers c statement (Stopped reason) = false

abbrev pub is_syntax_at : ℕ → Answer → Bool
is_syntax_at place (Refused (refusal.Syntax at)) = place == at
is_syntax_at place answer = false

-- Syntax is the answer just where the text is no statement, at the place where it goes wrong.
abbrev pub answers_text : Connection → Result Statement ℕ → Answer → Bool
answers_text c (Err at) answer = is_syntax_at at answer
answers_text c (Ok statement) answer = answers c statement answer

-- the inverses of the changes that a ROLLBACK TO SAVEPOINT undoes
abbrev pub acts_back : Connection → Result Statement ℕ → List Act
acts_back c (Ok (s.RollbackTo name)) = option_map_or (undoing name) c.transaction []
acts_back c read = []

-- Only these answers have acts.
abbrev pub MayAct : Connection → Result Statement ℕ → Answer → List Act → Type 0
MayAct c read (Given (reply.Inserted count)) acts = ⊤
MayAct c read (Given (reply.Updated count)) acts = ⊤
MayAct c read (Given (reply.Deleted count)) acts = ⊤
MayAct c read (Given (reply.Created number)) acts = ⊤
MayAct c read (Given (reply.Dropped number)) acts = ⊤
MayAct c read (Given reply.BackToSavepoint) acts = acts ≡ acts_back c read
MayAct c read answer acts = acts ≡ []

-- the entry of a statement that is answered where its connection stands so
pub record IsAnswered (c : Connection) (p : Part) : Type 0 where
  pub level : p.entry.level ≡ c.level
  pub answer : answers_text c p.read p.entry.answer ≡ true
  pub acts : MayAct c p.read p.entry.answer p.entry.acts

-- the entry of a statement that the stop answers
pub record IsStopped (stop : Option Reason) (c : Connection) (p : Part) : Type 0 where
  pub level : p.entry.level ≡ c.level
  pub reason : Reason
  pub stopped : stop ≡ Some reason
  pub answer : p.entry.answer ≡ Stopped reason
  pub acts : p.entry.acts ≡ []

-- Each is answered where its connection stands then; or, from some entry on, all by the stop.
abbrev pub AreAnswered : Option Reason → Connection → List Part → Type 0
AreAnswered stop c [] = ⊤
AreAnswered stop c (p ∷ parts) = (IsAnswered c p × AreAnswered stop (next c p) parts) ⊎ AllByRecursion (IsStopped stop c) (p ∷ parts)

-- The entries are those of the script, each with the answer that its statement may have.
pub record Fits (text : List ℕ) (entries : List Entry) (stop : Option Reason) : Type 0 where
  pub spans : map span_of entries ≡ statements_of text
  pub answers : AreAnswered stop new_connection (parts_of text entries)
