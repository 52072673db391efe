-- Where a connection stands by its entries: its level, and its open transaction with the changes that stand and the savepoints.
use Rattle.std.specs.Prelude.{ℕ, Bool, true, false, List, [], ◌∷◌, ◌++◌, map, length, take, drop, reverse, Option, Some, None, is_some, Result, Ok, Err, if◌then◌else◌}
use Rattle.std.specs.List.{filter_map, fold, list_any, list_all}
use Rattle.std.specs.Option.{option_map, option_map_or}
use Rattle.std.specs.Str.{bytes_eq}
use Rattle.wat_value.specs.declared.change.Change.{Change}
use Rattle.wat_value.specs.declared.change.Act.{Act}
use Rattle.wat_value.specs.declared.change.Act.TheVariants.{OnRow, OnSchema}
use Rattle.wat_ast.specs.declared.statement.Statement.{Statement}
use Rattle.wat_ast.specs.declared.statement.Statement.TheVariants as s
use Rattle.wat_schema.specs.Catalog.{Name}
use Rattle.wat_schema.specs.Tables.{inverse}
use Rattle.wat_parse.specs.declared.script.Span.{Span}
use Rattle.wat_parse.specs.Parsing.{parsed_at}
use Rattle.wat_conn.specs.declared.answer.Reply.TheVariants as reply
use Rattle.wat_conn.specs.declared.answer.Answer.{Answer}
use Rattle.wat_conn.specs.declared.answer.Answer.TheVariants.{Given, Deadlock, Unsupported, Stopped}
use Rattle.wat_conn.specs.declared.session.Entry.{Entry}

-- an entry, and the statement that its script has there, or where the text goes wrong
pub record Part : Type 0 where
  pub read : Result Statement ℕ
  pub entry : Entry

abbrev pub span_of : Entry → Span
span_of e = record { from = e.from; to = e.to }

abbrev pub part_of : List ℕ → Entry → Part
part_of text e = record { read = parsed_at text (span_of e); entry = e }

abbrev pub parts_of : List ℕ → List Entry → List Part
parts_of text entries = map (part_of text) entries

-- A transaction so far: its entries, its changes that are not undone, and its savepoints, the latest first, each with how many changes stood there.
pub record Transaction : Type 0 where
  pub parts : List Part
  pub standing : List Change
  pub savepoints : List (Name × ℕ)

abbrev pub new_transaction : Transaction
new_transaction = record { parts = []; standing = []; savepoints = [] }

-- the isolation level, and the open transaction
pub record Connection : Type 0 where
  pub level : ℕ
  pub transaction : Option Transaction

-- a connection begins at level 0, with no transaction open
abbrev pub new_connection : Connection
new_connection = record { level = 0; transaction = None }

-- ---- savepoints

-- the savepoints from the latest of the name on back
abbrev pub back_from : Name → List (Name × ℕ) → List (Name × ℕ)
back_from name [] = []
back_from name (save ∷ earlier) = if bytes_eq name save.0 then save ∷ earlier else back_from name earlier

abbrev pub has_savepoint : Name → Transaction → Bool
has_savepoint name t = list_any (λ save. bytes_eq name save.0) t.savepoints

abbrev pub first_count : List (Name × ℕ) → ℕ
first_count [] = 0
first_count (save ∷ earlier) = save.1

-- how many changes stood at the latest savepoint of the name
abbrev pub stood_at : Name → Transaction → ℕ
stood_at name t = first_count (back_from name t.savepoints)

-- the inverses of the changes since then, the last one first
abbrev pub undoing : Name → Transaction → List Act
undoing name t = map (λ change. OnRow (inverse change)) (reverse (drop (stood_at name t) t.standing))

-- ---- what an entry leaves

abbrev pub change_of : Act → Option Change
change_of (OnRow change) = Some change
change_of (OnSchema change) = None

-- the changes of rows among the acts
abbrev pub changes_of : List Act → List Change
changes_of acts = filter_map change_of acts

-- all acts are changes of rows
abbrev pub are_of_rows : List Act → Bool
are_of_rows acts = list_all (λ act. is_some (change_of act)) acts

-- what an answered statement leaves of the changes and savepoints of its transaction
abbrev pub noted : Statement → Answer → List Act → Transaction → Transaction
noted (s.Savepoint name) (Given reply.Savepoint) acts t = record t { savepoints = (name, length t.standing) ∷ t.savepoints }
noted (s.RollbackTo name) (Given reply.BackToSavepoint) acts t = record t { standing = take (stood_at name t) t.standing; savepoints = back_from name t.savepoints }
noted (s.Release name) (Given reply.Released) acts t = record t { savepoints = drop 1 (back_from name t.savepoints) }
noted statement answer acts t = record t { standing = t.standing ++ changes_of acts }

abbrev pub with_part : Statement → Part → Transaction → Transaction
with_part statement p t = record (noted statement p.entry.answer p.entry.acts t) { parts = t.parts ++ p ∷ [] }

-- the statements that open a transaction where none is open, whatever they are answered
abbrev pub opens : Statement → Bool
opens (s.Insert table columns source) = true
opens (s.Update table sets filter) = true
opens (s.Delete table filter) = true
opens (s.Select q) = true
opens (s.Savepoint name) = true
opens (s.RollbackTo name) = true
opens (s.Release name) = true
opens statement = false

-- the answers at which an open transaction ends
abbrev pub ends : Answer → Bool
ends (Given (reply.Committed number)) = true
ends (Given reply.RolledBack) = true
ends (Deadlock cycle) = true
ends answer = false

-- the transaction in which a statement runs
abbrev pub running : Statement → Option Transaction → Option Transaction
running statement None = if opens statement then Some new_transaction else None
running statement (Some t) = Some t

-- an option holds from the next statement on
abbrev pub level_after : Statement → ℕ → ℕ
level_after (s.SetLevel level) before = level
level_after statement before = before

abbrev pub after_answer : Connection → Statement → Part → Connection
after_answer c statement p = record {
  level = level_after statement c.level;
  transaction = if ends p.entry.answer then None else option_map (with_part statement p) (running statement c.transaction);
}

-- A statement that is not served and one that the stop answers leave all as it is.
abbrev pub is_done : Answer → Bool
is_done Unsupported = false
is_done (Stopped reason) = false
is_done answer = true

-- So does a text that is no statement.
abbrev pub after_text : Connection → Part → Result Statement ℕ → Connection
after_text c p (Err at) = c
after_text c p (Ok statement) = if is_done p.entry.answer then after_answer c statement p else c

abbrev pub next : Connection → Part → Connection
next c p = after_text c p p.read

-- where the connection stands after these entries
abbrev pub connection_after : List Part → Connection
connection_after parts = fold next new_connection parts

-- the changes of its open transaction that stand
abbrev pub standing : Connection → List Change
standing c = option_map_or (λ t. t.standing) c.transaction []
