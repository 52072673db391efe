-- What a statement below the serial level may do, whatever the others do meanwhile.
use Rattle.std.specs.Prelude.{◌≡◌, ⊤, ◌≤◌, ℕ, nat_lt, true, List, [], map, length, Option, Some, None, Ok}
use Rattle.std.specs.List.{list_all}
use Rattle.wat_value.specs.declared.definition.TableDef.{TableDef}
use Rattle.wat_value.specs.declared.change.Change.{Change}
use Rattle.wat_value.specs.declared.change.Change.TheVariants as change
use Rattle.wat_value.specs.declared.change.Act.{Act}
use Rattle.wat_value.specs.declared.change.Act.TheVariants.{OnRow}
use Rattle.wat_ast.specs.declared.statement.InsertSource.{InsertSource}
use Rattle.wat_ast.specs.declared.statement.InsertSource.TheVariants as from
use Rattle.wat_ast.specs.declared.statement.Statement.{Statement}
use Rattle.wat_ast.specs.declared.statement.Statement.TheVariants as s
use Rattle.wat_schema.specs.Catalog.{Catalog}
use Rattle.wat_schema.specs.Tables.{Row, Tables, by_key, catalog_of, rising}
use Rattle.wat_rules.specs.Check.{check}
use Rattle.wat_meaning.specs.declared.reply.Reply.{Reply as Meant}
use Rattle.wat_meaning.specs.Meaning.{Made.Changing, after_set, alone, def_called, made, passes}
use Rattle.wat_conn.specs.declared.answer.Reply.TheVariants as reply
use Rattle.wat_conn.specs.declared.answer.Answer.{Answer}
use Rattle.wat_conn.specs.declared.answer.Answer.TheVariants.{Given}
use Rattle.wat_history.specs.Connection.{Part}
use Rattle.wat_history.specs.History.{Commit}
use Rattle.wat_history.specs.Serial.{after}

-- the acts of VALUES: those that it means
abbrev pub IsPlainSource : Catalog → Statement → TableDef → InsertSource → List Act → Type 0
IsPlainSource c statement def (from.Values exprs) acts = (r : Meant) × (changes : List Change) × (made c statement [] ≡ Ok (Changing r changes)) × (acts ≡ map OnRow changes)
IsPlainSource c statement def (from.Answer q) acts = (rows : List Row) × (acts ≡ map (λ row. OnRow (change.Insert def.number row)) rows)

-- Rows with WHERE True, in key order with distinct keys, each as SET makes it or deleted; or rows that are inserted, those of VALUES just as they mean.
abbrev pub ArePlain : Catalog → Statement → TableDef → List Act → Type 0
ArePlain c (s.Insert table columns source) def acts = IsPlainSource c (s.Insert table columns source) def source acts
ArePlain c (s.Update table sets filter) def acts =
    (rows : List Row) × (list_all (λ row. passes filter (alone row)) rows ≡ true) × (rising (by_key def) rows ≡ true)
    × (acts ≡ map (λ row. OnRow (change.Update def.number row (after_set def sets row))) rows)
ArePlain c (s.Delete table filter) def acts =
    (rows : List Row) × (list_all (λ row. passes filter (alone row)) rows ≡ true) × (rising (by_key def) rows ≡ true)
    × (acts ≡ map (λ row. OnRow (change.Delete def.number row)) rows)
ArePlain c statement def acts = ⊥

-- the table that INSERT, UPDATE or DELETE changes
abbrev pub target : Catalog → Statement → Option TableDef
target c (s.Insert table columns source) = def_called c table
target c (s.Update table sets filter) = def_called c table
target c (s.Delete table filter) = def_called c table
target c statement = None

-- The statement passes the checks of the schema, and what it did is plain; so many changes were made.
pub record IsPlainChange (c : Catalog) (p : Part) (count : ℕ) : Type 0 where
  pub asked : Statement
  pub read : p.read ≡ Ok asked
  pub placed : Statement
  pub checked : check c asked ≡ Ok placed
  pub def : TableDef
  pub stands : target c placed ≡ Some def
  pub acts : ArePlain c placed def p.entry.acts
  pub counted : length p.entry.acts ≡ count

abbrev pub IsPlainAnswer : Catalog → Part → Answer → Type 0
IsPlainAnswer c p (Given (reply.Inserted count)) = IsPlainChange c p count
IsPlainAnswer c p (Given (reply.Updated count)) = IsPlainChange c p count
IsPlainAnswer c p (Given (reply.Deleted count)) = IsPlainChange c p count
IsPlainAnswer c p answer = ⊤

-- An entry below the level `least` is plain by this schema.
abbrev pub Plain : ℕ → Catalog → Part → Type 0
Plain least c p = nat_lt p.entry.level least ≡ true → IsPlainAnswer c p p.entry.answer

-- It is so by the schema after some of the transactions: that at which its own transaction began.
abbrev pub PlainAfterSome : ℕ → Tables → List Commit → Part → Type 0
PlainAfterSome least base history p = (count : ℕ) × (count ≤ length history) × Plain least (catalog_of (after base history count)) p
