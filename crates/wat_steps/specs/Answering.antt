-- The end of a statement, and of a transaction.
use Rattle.std.specs.Prelude.{◌≡◌, ℕ, ◌==◌, not, ◌&&◌, is_some, List, [], ◌∷◌, ◌++◌, Option, Some, None, unwrap_or}
use Rattle.std.specs.List.{filter}
use Rattle.wat_list.specs.Has.{HasSame}
use Rattle.wat_value.specs.declared.change.Act.{Act}
use Rattle.wat_parse.specs.declared.script.Span.{Span}
use Rattle.wat_locks.specs.declared.held.Held.{Held}
use Rattle.wat_conn.specs.declared.answer.Answer.{Answer}
use Rattle.wat_conn.specs.declared.session.Entry.{Entry}
use Rattle.wat_steps.specs.State.{OpenTransaction, ConnectionState, VacantKey, CoreState, with_connection}
use Rattle.wat_steps.specs.Changing.{undone}

-- the same state, where locks and vacant keys stand in any order and any number of times
pub record IsSame (a b : CoreState) : Type 0 where
  pub held : HasSame b.held a.held
  pub vacant : HasSame b.vacant a.vacant
  pub others : record a { held = b.held; vacant = b.vacant } ≡ b

-- ---- a statement

abbrev pub entry_at : Span → ℕ → Answer → List Act → Entry
entry_at span level answer acts = record { from = span.from; to = span.to; level = level; answer = answer; acts = acts }

-- the first of the statements that are left has its answer
abbrev pub with_answer : List Span → ConnectionState → Answer → List Act → ConnectionState
with_answer [] k answer acts = k
with_answer (span ∷ more) k answer acts = record k { left = more; transcript = k.transcript ++ entry_at span k.level answer acts ∷ [] }

abbrev pub without_short : ℕ → List Held → List Held
without_short c held = filter (λ (h : Held). not ((h.conn == c) && is_some h.short)) held

-- The statement is answered: it is no longer under way, waits for nothing, and its short locks are freed.
abbrev pub answered : ℕ → CoreState → Answer → List Act → CoreState
answered c e answer acts =
    record (with_connection c (record (with_answer (e.connections c).left (e.connections c) answer acts) { work = None; request = None }) e) { held = without_short c e.held }

-- ---- a transaction

abbrev pub no_changes : OpenTransaction
no_changes = record { standing = []; savepoints = [] }

-- the open transaction, or a new one
abbrev pub transaction_of : ℕ → CoreState → OpenTransaction
transaction_of c e = unwrap_or (e.connections c).transaction no_changes

abbrev pub with_transaction : ℕ → OpenTransaction → CoreState → CoreState
with_transaction c t e = with_connection c (record (e.connections c) { transaction = Some t }) e

-- a transaction is open
abbrev pub opened : ℕ → CoreState → CoreState
opened c e = with_transaction c (transaction_of c e) e

-- The transaction is over: its locks and its vacant keys go.
abbrev pub ended : ℕ → CoreState → CoreState
ended c e = record (with_connection c (record (e.connections c) { transaction = None }) e) {
  held = filter (λ (h : Held). not (h.conn == c)) e.held;
  vacant = filter (λ (v : VacantKey). not (v.conn == c)) e.vacant;
}

abbrev pub rolled_back_from : ℕ → Option OpenTransaction → CoreState → CoreState
rolled_back_from c None e = e
rolled_back_from c (Some t) e = ended c (undone c t.standing e)

-- the open transaction, if one is, is undone and over
abbrev pub rolled_back : ℕ → CoreState → CoreState
rolled_back c e = rolled_back_from c (e.connections c).transaction e
