-- Connections of a few entries and sessions of two, over small tables, and what the definitions say of them.
use Rattle.std.specs.Prelude.{◌≡◌, ℕ, true, false, List, [], ◌∷◌, map, Option, Some, None, Ok, Err, codes}
use Rattle.wat_value.specs.declared.value.Value.TheVariants.{Null, Text}
use Rattle.wat_value.specs.declared.change.Change.TheVariants as change
use Rattle.wat_value.specs.declared.change.SchemaChange.TheVariants as schema
use Rattle.wat_value.specs.declared.change.Act.{Act}
use Rattle.wat_value.specs.declared.change.Act.TheVariants.{OnRow, OnSchema}
use Rattle.wat_value.specs.declared.definition.Kind.TheVariants as kind
use Rattle.wat_value.specs.declared.definition.TableDef.{TableDef}
use Rattle.wat_ast.specs.declared.expression.BinaryOp.TheVariants as op
use Rattle.wat_ast.specs.declared.expression.Expr.TheVariants as e
use Rattle.wat_ast.specs.declared.statement.InsertSource.TheVariants.{Values}
use Rattle.wat_ast.specs.declared.statement.Statement.{Statement}
use Rattle.wat_ast.specs.declared.statement.Statement.TheVariants as s
use Rattle.wat_schema.specs.declared.refusal.Refusal.TheVariants as refusal
use Rattle.wat_schema.specs.Tables.{Row, Tables, catalog_of}
use Rattle.wat_conn.specs.declared.answer.Reason.TheVariants.{DiskFault, Memory}
use Rattle.wat_conn.specs.declared.answer.Reply.TheVariants as reply
use Rattle.wat_conn.specs.declared.answer.Answer.{Answer}
use Rattle.wat_conn.specs.declared.answer.Answer.TheVariants.{Given, Refused, Deadlock, OpenTransaction, Unsupported, Stopped}
use Rattle.wat_meaning.specs.Cases.{base, t_def, u_def, row, n, int, k, v, query, source}
use Rattle.wat_history.specs.Connection.{Part, Transaction, Connection, new_connection, connection_after}
use Rattle.wat_history.specs.Fits.{answers_text, acts_back}
use Rattle.wat_history.specs.History.{Commit, commits_from, effects}
use Rattle.wat_history.specs.Serial.{Means, Serial, after}
use Rattle.wat_history.specs.Plain.{IsPlainChange, Plain}
use Rattle.wat_history.specs.Naming.{names_of}
use Rattle.wat_history.specs.Cut.{cuts_by}

-- a statement with its answer and acts, at a level
abbrev pub at_level : ℕ → Statement → Answer → List Act → Part
at_level level statement answer acts = record { read = Ok statement; entry = record { from = 0; to = 0; level = level; answer = answer; acts = acts } }

abbrev pub done : Statement → Answer → List Act → Part
done statement answer acts = at_level 0 statement answer acts

-- INSERT INTO t VALUES (key, 0, NULL)
abbrev pub insert : ℕ → Statement
insert key = s.Insert (codes "t") None (Values (int key ∷ int 0 ∷ e.Literal Null ∷ []))

abbrev pub new_row : ℕ → Row
new_row key = row (n key) (n 0) Null

abbrev pub inserted : ℕ → Part
inserted key = done (insert key) (Given (reply.Inserted 1)) (OnRow (change.Insert 1 (new_row key)) ∷ [])

abbrev pub commit : ℕ → Part
commit number = done s.Commit (Given (reply.Committed number)) []

abbrev pub rollback : Part
rollback = done s.Rollback (Given reply.RolledBack) []

abbrev pub savepoint : List ℕ → Part
savepoint name = done (s.Savepoint name) (Given reply.Savepoint) []

abbrev pub release : List ℕ → Part
release name = done (s.Release name) (Given reply.Released) []

-- ROLLBACK TO SAVEPOINT, with the inverses of what it undoes
abbrev pub back_to : List ℕ → List Act → Part
back_to name acts = done (s.RollbackTo name) (Given reply.BackToSavepoint) acts

-- SELECT k FROM nothing
abbrev pub select_nothing : Statement
select_nothing = s.Select (query (k ∷ []) (source (codes "nothing") ∷ []) None [])

-- the open transaction where the entries end, without its entries
abbrev pub stands : List Part → Option (List Act × List (List ℕ × ℕ))
stands parts = shown (connection_after parts).transaction
  where
    shown : Option Transaction → Option (List Act × List (List ℕ × ℕ))
    shown None = None
    shown (Some t) = Some (map OnRow t.standing, t.savepoints)

abbrev pub inserts : ℕ → Act
inserts key = OnRow (change.Insert 1 (new_row key))

abbrev pub deletes : ℕ → Act
deletes key = OnRow (change.Delete 1 (new_row key))

abbrev pub a : List ℕ
a = codes "a"

abbrev pub b : List ℕ
b = codes "b"

-- ---- where a connection stands

pub record ConnectionCases : Type 0 where
  -- no transaction is open, and then one is, up to COMMIT or ROLLBACK
  pub begins : stands [] ≡ None
  pub opens : stands (inserted 2 ∷ inserted 4 ∷ []) ≡ Some (inserts 2 ∷ inserts 4 ∷ [], [])
  pub commits : stands (inserted 2 ∷ commit 1 ∷ []) ≡ None
  pub rolls_back : stands (inserted 2 ∷ rollback ∷ inserted 4 ∷ []) ≡ Some (inserts 4 ∷ [], [])
  -- a statement that is refused opens one too, and a Deadlock ends it
  pub refused : stands (done select_nothing (Refused (refusal.NoTable (codes "nothing"))) [] ∷ []) ≡ Some ([], [])
  pub no_savepoint : stands (done (s.RollbackTo a) (Refused (refusal.NoSavepoint a)) [] ∷ []) ≡ Some ([], [])
  pub deadlock : stands (inserted 2 ∷ done (insert 4) (Deadlock []) [] ∷ []) ≡ None
  -- a CREATE or DROP, COMMIT with none open and what is not served open none
  pub others : stands (done (s.DropTable (codes "t")) (Given (reply.Dropped 1)) (OnSchema (schema.DropTable 1) ∷ []) ∷ done s.Commit (Given reply.NothingToCommit) [] ∷ done (insert 2) Unsupported [] ∷ []) ≡ None
  -- ROLLBACK TO SAVEPOINT cuts the changes, keeps its savepoint and drops later ones
  pub back : stands (inserted 2 ∷ savepoint a ∷ inserted 4 ∷ savepoint b ∷ inserted 6 ∷ back_to a (deletes 6 ∷ deletes 4 ∷ []) ∷ inserted 8 ∷ []) ≡ Some (inserts 2 ∷ inserts 8 ∷ [], (a, 1) ∷ [])
  -- the latest savepoint of a name counts, and RELEASE drops it and later ones
  pub latest : stands (savepoint a ∷ inserted 2 ∷ savepoint a ∷ inserted 4 ∷ back_to a (deletes 4 ∷ []) ∷ []) ≡ Some (inserts 2 ∷ [], (a, 1) ∷ (a, 0) ∷ [])
  pub released : stands (savepoint a ∷ inserted 2 ∷ savepoint b ∷ release a ∷ inserted 4 ∷ []) ≡ Some (inserts 2 ∷ inserts 4 ∷ [], [])
  -- an option holds from the next statement on
  pub level : (connection_after (done (s.SetLevel 3) (Given reply.OptionSet) [] ∷ [])).level ≡ 3
  pub level_not_served : (connection_after (done (s.SetLevel 3) Unsupported [] ∷ [])).level ≡ 0

-- ---- which answers there are

abbrev pub open_one : Connection
open_one = connection_after (inserted 2 ∷ savepoint a ∷ inserted 4 ∷ [])

pub record AnswerCases : Type 0 where
  pub commits : answers_text open_one (Ok s.Commit) (Given (reply.Committed 7)) ≡ true
  pub commits_nothing : answers_text new_connection (Ok s.Commit) (Given (reply.Committed 7)) ≡ false
  pub nothing_to_commit : answers_text new_connection (Ok s.Commit) (Given reply.NothingToCommit) ≡ true
  pub something_to_commit : answers_text open_one (Ok s.Commit) (Given reply.NothingToCommit) ≡ false
  pub another_reply : answers_text open_one (Ok (insert 6)) (Given (reply.Updated 1)) ≡ false
  pub the_place : answers_text open_one (Err 7) (Refused (refusal.Syntax 7)) ≡ true
  pub another_place : answers_text open_one (Err 7) (Refused (refusal.Syntax 8)) ≡ false
  pub no_syntax : answers_text open_one (Ok (insert 6)) (Refused (refusal.Syntax 0)) ≡ false
  pub no_statement : answers_text open_one (Err 7) Unsupported ≡ false
  pub a_savepoint : answers_text open_one (Ok (s.RollbackTo a)) (Given reply.BackToSavepoint) ≡ true
  pub a_savepoint_that_is_there : answers_text open_one (Ok (s.RollbackTo a)) (Refused (refusal.NoSavepoint a)) ≡ false
  pub no_savepoint : answers_text open_one (Ok (s.Release b)) (Refused (refusal.NoSavepoint b)) ≡ true
  pub released : answers_text open_one (Ok (s.Release b)) (Given reply.Released) ≡ false
  pub a_deadlock : answers_text open_one (Ok (insert 6)) (Deadlock []) ≡ true
  pub no_deadlock : answers_text open_one (Ok (s.DropTable (codes "t"))) (Deadlock []) ≡ false
  pub open_transaction : answers_text open_one (Ok (s.DropTable (codes "t"))) (OpenTransaction 1) ≡ true
  pub dropped_in_a_transaction : answers_text open_one (Ok (s.DropTable (codes "t"))) (Given (reply.Dropped 1)) ≡ false
  pub refused_in_a_transaction : answers_text open_one (Ok (s.DropTable (codes "x"))) (Refused (refusal.NoTable (codes "x"))) ≡ false
  pub no_open_transaction : answers_text open_one (Ok (insert 6)) (OpenTransaction 1) ≡ false
  pub acts : acts_back open_one (Ok (s.RollbackTo a)) ≡ deletes 4 ∷ []

-- ---- the history

abbrev pub dropped : ℕ → Part
dropped number = done (s.DropTable (codes "u")) (Given (reply.Dropped number)) (OnSchema (schema.DropTable 2) ∷ [])

abbrev pub two_rows : ℕ → Commit
two_rows number = record { number = number; parts = inserted 2 ∷ inserted 4 ∷ [] }

-- w (x INTEGER PRIMARY KEY), under another number than the table that was called so before
abbrev pub w : ℕ → TableDef
w number = record { number = number; name = codes "w"; columns = record { name = codes "x"; kind = kind.Integer; nullable = false } ∷ []; key = 0 ∷ [] }

pub record HistoryCases : Type 0 where
  -- a transaction ends with its COMMIT, and one that is rolled back is none
  pub of_one : commits_from new_connection (inserted 6 ∷ rollback ∷ inserted 2 ∷ inserted 4 ∷ commit 2 ∷ inserted 8 ∷ []) ≡ two_rows 2 ∷ []
  -- a CREATE or DROP is one of its own
  pub of_another : commits_from new_connection (dropped 1 ∷ done s.Commit (Given reply.NothingToCommit) [] ∷ []) ≡ record { number = 1; parts = dropped 1 ∷ [] } ∷ []
  -- the acts of all entries, in order: of what was undone its inverse too
  pub effect : effects (record { number = 1; parts = inserted 2 ∷ savepoint a ∷ inserted 4 ∷ back_to a (deletes 4 ∷ []) ∷ [] } ∷ []) ≡ inserts 2 ∷ inserts 4 ∷ deletes 4 ∷ []
  -- two tables of one name, and an index of the second
  pub names : names_of base (OnSchema (schema.CreateTable (w 3)) ∷ OnSchema (schema.DropTable 3) ∷ OnSchema (schema.CreateTable (w 4)) ∷ OnSchema (schema.CreateIndex (record { number = 1; table = 4; name = codes "i"; columns = 0 ∷ [] })) ∷ [])
      ≡ record { number = 1; name = codes "t"; indexes = [] } ∷ record { number = 2; name = codes "u"; indexes = [] }
      ∷ record { number = 3; name = codes "w"; indexes = [] } ∷ record { number = 4; name = codes "w"; indexes = codes "i" ∷ [] } ∷ []

-- ---- serial

-- DELETE FROM t WHERE v > 10
abbrev pub delete_rows : Statement
delete_rows = s.Delete (codes "t") (Some (e.Binary op.Greater v (int 10)))

abbrev pub deleted_rows : List Act
deleted_rows = OnRow (change.Delete 1 (row (n 3) (n 30) Null)) ∷ OnRow (change.Delete 1 (row (n 5) (n 50) (Text (codes "c")))) ∷ []

-- SELECT k FROM t
abbrev pub select_keys : Statement
select_keys = s.Select (query (k ∷ []) (source (codes "t") ∷ []) None [])

-- a transaction that deletes two rows, and sees what is left
abbrev pub deleting : List Part
deleting = at_level 3 delete_rows (Given (reply.Deleted 2)) deleted_rows ∷ at_level 3 select_keys (Given (reply.Rows ((n 1 ∷ []) ∷ []))) [] ∷ []

-- and then a DROP, and a statement that is refused
abbrev pub dropping : List Part
dropping = dropped 2 ∷ []

abbrev pub between : Tables
between = record { tables = record { def = t_def; indexes = []; rows = row (n 1) (n 10) (Text a) ∷ [] } ∷ record { def = u_def; indexes = []; rows = row (n 1) (n 10) (n 20) ∷ row (n 2) (n 30) Null ∷ [] } ∷ []; next = 3 }

abbrev pub left : Tables
left = record { tables = record { def = t_def; indexes = []; rows = row (n 1) (n 10) (Text a) ∷ [] } ∷ []; next = 3 }

abbrev pub two_commits : List Commit
two_commits = record { number = 1; parts = deleting } ∷ record { number = 2; parts = dropping } ∷ []

pub record SerialCases : Type 0 where
  pub serial : Serial 3 base two_commits left
  pub ends : after base two_commits 2 ≡ left
  -- another count, rows as they were before the DELETE, an act too few: each is no answer at level 3
  pub another_count : Means 3 base (at_level 3 delete_rows (Given (reply.Deleted 1)) deleted_rows) → ⊥
  pub rows_of_before : Means 3 between (at_level 3 select_keys (Given (reply.Rows ((n 1 ∷ []) ∷ (n 3 ∷ []) ∷ []))) []) → ⊥
  pub an_act_too_few : Means 3 base (at_level 3 delete_rows (Given (reply.Deleted 2)) []) → ⊥
  -- below it nothing is said, and nothing of what was locked out
  pub below : Means 3 between (at_level 2 select_keys (Given (reply.Rows [])) [])
  pub locked_out : Means 3 between (at_level 3 select_keys (Deadlock []) [])

-- ---- plain

-- the DELETE met only one of the rows that stood when it ended
abbrev pub delete_one : Part
delete_one = done delete_rows (Given (reply.Deleted 1)) (OnRow (change.Delete 1 (row (n 5) (n 50) (Text (codes "c")))) ∷ [])

pub record PlainCases : Type 0 where
  pub a_row_is_passed_over : Plain 3 (catalog_of base) delete_one
  pub another_count : IsPlainChange (catalog_of base) delete_one 2 → ⊥

-- ---- what a stop cut

abbrev pub stopped : Statement → Part
stopped statement = done statement (Stopped DiskFault) []

pub record CutCases : Type 0 where
  pub a_commit : cuts_by (Some DiskFault) base ((inserted 2 ∷ stopped s.Commit ∷ []) ∷ []) ≡ (inserts 2 ∷ []) ∷ []
  pub a_drop : cuts_by (Some DiskFault) base ((stopped (s.DropTable (codes "u")) ∷ []) ∷ []) ≡ (OnSchema (schema.DropTable 2) ∷ []) ∷ []
  -- one before the COMMIT, and one after another stop
  pub none_before : cuts_by (Some DiskFault) base ((inserted 2 ∷ stopped (insert 4) ∷ stopped s.Commit ∷ []) ∷ []) ≡ []
  pub none_for_memory : cuts_by (Some Memory) base ((inserted 2 ∷ done s.Commit (Stopped Memory) [] ∷ []) ∷ []) ≡ []
