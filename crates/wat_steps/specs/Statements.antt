-- Statements that are answered at once.
use Rattle.std.specs.Prelude.{◌≡◌, ◌≢◌, ℕ, ◌≤◌, ◌+◌, Bool, true, List, [], ◌∷◌, ◌++◌, map, length, take, drop, reverse, is_some, ◌⊎◌, Option, Some, None, Result, Ok, Err}
use Rattle.std.specs.List.{fold}
use Rattle.wat_value.specs.declared.change.Act.{Act}
use Rattle.wat_value.specs.declared.change.Act.TheVariants.{OnRow}
use Rattle.wat_ast.specs.declared.statement.Statement.{Statement}
use Rattle.wat_schema.specs.declared.refusal.Refusal.{Refusal}
use Rattle.wat_schema.specs.declared.refusal.Refusal.TheVariants.{NoSavepoint}
use Rattle.wat_schema.specs.Catalog.{Name}
use Rattle.wat_schema.specs.Tables.{Tables, inverse, apply_all}
use Rattle.wat_rules.specs.Check.{check}
use Rattle.wat_meaning.specs.declared.reply.Reply.{Reply as Meant}
use Rattle.wat_meaning.specs.declared.reply.Reply.TheVariants as meant
use Rattle.wat_meaning.specs.Meaning.{after_change, meaning}
use Rattle.wat_conn.specs.declared.answer.Reply.TheVariants as reply
use Rattle.wat_conn.specs.declared.answer.Answer.{Answer}
use Rattle.wat_conn.specs.declared.answer.Answer.TheVariants.{Given, Refused, OpenTransaction as TransactionIsOpen}
use Rattle.wat_history.specs.Connection.{back_from}
use Rattle.wat_scans.specs.Running.{begin}
use Rattle.wat_steps.specs.State.{OpenTransaction, CoreState, Progressed, Progressed.Moved, Progressed.Answered, schema_of, with_connection}
use Rattle.wat_steps.specs.Changing.{undone}
use Rattle.wat_steps.specs.Answering.{IsSame, answered, transaction_of, with_transaction, opened, ended}

-- ---- savepoints

abbrev pub with_savepoint : Name → OpenTransaction → OpenTransaction
with_savepoint name t = record t { savepoints = (name, length t.standing) ∷ t.savepoints }

-- the first so many changes, and these savepoints
abbrev pub cut_to : ℕ → List (Name × ℕ) → OpenTransaction → OpenTransaction
cut_to count savepoints t = record { standing = take count t.standing; savepoints = savepoints }

-- the inverses of the changes behind the first so many, the last one first
abbrev pub undoing : ℕ → OpenTransaction → List Act
undoing count t = map (λ change. OnRow (inverse change)) (reverse (drop count t.standing))

-- Back to the first of these savepoints, which stays: the changes since then are undone.
abbrev pub back_to : ℕ → Name → List (Name × ℕ) → CoreState → CoreState
back_to c name [] e = answered c (opened c e) (Refused (NoSavepoint name)) []
back_to c name (save ∷ earlier) e =
    let t = transaction_of c e in
    answered c (with_transaction c (cut_to save.1 (save ∷ earlier) t) (undone c (drop save.1 t.standing) e)) (Given reply.BackToSavepoint) (undoing save.1 t)

-- the first of these savepoints goes
abbrev pub released : ℕ → Name → List (Name × ℕ) → CoreState → CoreState
released c name [] e = answered c (opened c e) (Refused (NoSavepoint name)) []
released c name (save ∷ earlier) e = answered c (with_transaction c (record (transaction_of c e) { savepoints = earlier }) e) (Given reply.Released) []

-- the savepoints from the latest of the name on back
abbrev pub saves_from : ℕ → Name → CoreState → List (Name × ℕ)
saves_from c name e = back_from name (transaction_of c e).savepoints

-- ---- commits

abbrev pub next_number : CoreState → ℕ
next_number e = length e.moments + 1

-- the changes that stand become part of the committed tables
abbrev pub committed : ℕ → ℕ → Option OpenTransaction → CoreState → CoreState
committed c moment None e = answered c e (Given reply.NothingToCommit) []
committed c moment (Some t) e =
    answered c (ended c (record e { committed = fold after_change e.committed t.standing; moments = e.moments ++ moment ∷ [] })) (Given (reply.Committed (next_number e))) []

-- ---- schema statements

-- a connection with a transaction open
pub record IsOpen (e : CoreState) (d : ℕ) : Type 0 where
  pub from_one : 1 ≤ d
  pub within : d ≤ e.count
  pub has_transaction : is_some (e.connections d).transaction ≡ true

-- the least of them
pub record IsLeastOpen (e : CoreState) (d : ℕ) : Type 0 where
  pub is_open : IsOpen e d
  pub least : (other : ℕ) → IsOpen e other → d ≤ other

-- what says a reply of meaning; what is created or dropped is so by the commit of this number
abbrev pub answer_saying : ℕ → Meant → Answer
answer_saying number (meant.Rows rows) = Given (reply.Rows rows)
answer_saying number (meant.Inserted n) = Given (reply.Inserted n)
answer_saying number (meant.Updated n) = Given (reply.Updated n)
answer_saying number (meant.Deleted n) = Given (reply.Deleted n)
answer_saying number meant.Created = Given (reply.Created number)
answer_saying number meant.Dropped = Given (reply.Dropped number)
answer_saying number (meant.Refused refusal) = Refused refusal

-- a schema statement is a transaction of its own, and is committed at once
abbrev pub altered : ℕ → ℕ → Answer → List Act → Tables → CoreState → CoreState
altered c moment answer acts t e = answered c (record e { committed = t; now = t; moments = e.moments ++ moment ∷ [] }) answer acts

-- It answers what it means over the tables now. Where that has no acts, nothing is committed.
abbrev pub Alters : ℕ → CoreState → Statement → CoreState → Type 0
Alters c e x after =
    ((meaning e.now x).acts ≡ []) × IsSame (answered c e (answer_saying 0 (meaning e.now x).answer) []) after
    ⊎ ((t : Tables) × (moment : ℕ) × ((meaning e.now x).acts ≢ []) × (apply_all (meaning e.now x).acts e.now ≡ Some t)
    × IsSame (altered c moment (answer_saying (next_number e) (meaning e.now x).answer) (meaning e.now x).acts t e) after)

-- while a transaction is open, of whichever connection, it is refused
abbrev pub IsSchemaStep : ℕ → CoreState → Statement → CoreState → Type 0
IsSchemaStep c e x after =
    ((d : ℕ) × IsLeastOpen e d × IsSame (answered c e (TransactionIsOpen d) []) after)
    ⊎ (((d : ℕ) → IsOpen e d → ⊥) × Alters c e x after)

-- ---- statements on rows

-- the checks, and then the statement is under way
abbrev pub begun : ℕ → CoreState → Result Statement Refusal → Progressed × CoreState
begun c e (Err refusal) = (Answered, answered c e (Refused refusal) [])
begun c e (Ok x) = (Moved, with_connection c (record (e.connections c) { work = Some (begin (schema_of e) (e.connections c).level x) }) e)

abbrev pub Begins : ℕ → CoreState → Statement → Progressed → CoreState → Type 0
Begins c e x a after = let r = begun c (opened c e) (check (schema_of e) x) in (a ≡ r.0) × IsSame r.1 after

-- ---- options

abbrev pub with_level : ℕ → ℕ → CoreState → CoreState
with_level c level e = with_connection c (record (e.connections c) { level = level }) e

abbrev pub with_blocking : ℕ → Bool → CoreState → CoreState
with_blocking c on e = with_connection c (record (e.connections c) { blocking = on }) e
