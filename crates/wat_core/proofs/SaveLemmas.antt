-- Savepoints of a connection in a state, the connections at the beginning, and a statement that goes on.
use Rattle.std.proofs.Common.{◌≡◌, ℕ, zero, suc, ◌-◌, ◌≤◌, ◌==◌, Bool, true, false, cond, List, [], ◌∷◌, length, map, get_or, Option, Some, None, refl, sym, ap, ◌∙◌, subst}
use Rattle.std.specs.Prelude.{slice_get, slice_set, unwrap_or, Result, Ok, Err, IfOk}
use Rattle.std.specs.declared.alloc.AllocError.{AllocError}
use Rattle.std.proofs.lemmas.List.{length-map}
use Rattle.wat_schema.specs.Catalog.{Name}
use Rattle.wat_schema.specs.Tables.{Tables}
use Rattle.wat_locks.specs.declared.held.Held.{Held}
use Rattle.wat_history.specs.Connection.{back_from}
use Rattle.wat_scans.specs.Running.{Run}
use Rattle.wat_steps.specs.Answering.{transaction_of, with_transaction}
use Rattle.wat_steps.specs.Asking.{going_on}
use Rattle.wat_steps.specs.Fresh.{asked, connection_with, fresh, script_of}
use Rattle.wat_steps.specs.State.{ConnectionState, CoreState, OpenTransaction, with_connection}
use Rattle.wat_steps.specs.Statements.{saves_from}
use Rattle.wat_connection.specs.declared.transaction.Undone.{Undone}
use Rattle.wat_connection.specs.Transactions.{GoesBack, GoesBackIn, Releases, ReleasesIn, transaction_in, with_open}
use Rattle.wat_core.specs.CoreParts.{CoreParts, HasCore}
use Rattle.wat_core.specs.Parts.{HasParts, connection_of}
use Rattle.wat_core.specs.Savepoints.{GoesBackAt, ReleasesAt}
use Rattle.wat_core.proofs.CoreLemmas.{anew, found, parts_of}

back_by : (saves : List (Name × ℕ)) (c : ℕ) (e : CoreState) (t : OpenTransaction) (undone : Option Undone) (parts : CoreParts) → GoesBack saves (transaction_of c e) t undone → HasCore (with_transaction c t e) parts
    → GoesBackAt saves c e undone parts
back_by [] c e t undone parts goes has = (goes.0, subst (λ (s : OpenTransaction). HasCore (with_transaction c s e) parts) goes.1 has)
back_by (save ∷ earlier) c e t undone parts goes has = (goes.0, goes.1, subst (λ (s : OpenTransaction). HasCore (with_transaction c s e) parts) goes.2 has)

release_by : (saves : List (Name × ℕ)) (c : ℕ) (e : CoreState) (t : OpenTransaction) (there : Bool) (parts : CoreParts) → Releases saves (transaction_of c e) t there → HasCore (with_transaction c t e) parts
    → ReleasesAt saves c e there parts
release_by [] c e t there parts goes has = (goes.0, subst (λ (s : OpenTransaction). HasCore (with_transaction c s e) parts) goes.1 has)
release_by (save ∷ earlier) c e t there parts goes has = (goes.0, subst (λ (s : OpenTransaction). HasCore (with_transaction c s e) parts) goes.1 has)

module _ (e : CoreState) (parts : CoreParts) (xs : List ConnectionState) (locks : List Held) (c : ℕ) (k after : ConnectionState)
    (seen : parts_of xs locks ≡ parts) (has : HasCore e parts) (one : 1 ≤ c) (within : c ≤ length parts.states) (is : k ≡ get_or xs (c - 1) k) where
  same : e.connections c ≡ k
  same = found e parts xs locks c k after (λ (o : ConnectionState). o) seen has one within is

  pub back_at : (name : Name) (r : Result (Option Undone) AllocError) → IfOk r (GoesBackIn (back_from name (transaction_in k).savepoints) k after)
      → IfOk r (λ undone. GoesBackAt (saves_from c name e) c e undone (record { states = slice_set xs (c - 1) after; held = locks }))
  back_at name (Err none) goes = tt
  back_at name (Ok undone) goes =
      back_by (saves_from c name e) c e goes.0 undone (record { states = slice_set xs (c - 1) after; held = locks })
      (subst (λ (o : ConnectionState). GoesBack (back_from name (transaction_in o).savepoints) (transaction_in o) goes.0 undone) (sym same) goes.1)
      (anew e parts xs locks c k after (λ (o : ConnectionState). with_open o goes.0) seen has one within is goes.2)

  pub release_at : (name : Name) (there : Bool) → ReleasesIn (back_from name (transaction_in k).savepoints) k after there
      → ReleasesAt (saves_from c name e) c e there (record { states = slice_set xs (c - 1) after; held = locks })
  release_at name there goes =
      release_by (saves_from c name e) c e goes.0 there (record { states = slice_set xs (c - 1) after; held = locks })
      (subst (λ (o : ConnectionState). Releases (back_from name (transaction_in o).savepoints) (transaction_in o) goes.0 there) (sym same) goes.1)
      (anew e parts xs locks c k after (λ (o : ConnectionState). with_open o goes.0) seen has one within is goes.2)

-- ---- laws

asked_at : (scripts : List (List ℕ)) (i : ℕ) → connection_with (slice_get scripts i) ≡ unwrap_or (slice_get (map asked scripts) i) (connection_with None)
asked_at [] i = refl
asked_at (s ∷ more) zero = refl
asked_at (s ∷ more) (suc i) = asked_at more i

begin_at : (scripts : List (List ℕ)) (c : ℕ) → connection_with (script_of scripts c) ≡ connection_of (map asked scripts) c
begin_at scripts zero = refl
begin_at scripts (suc i) = asked_at scripts i

pub fresh_parts : (base : Tables) (scripts : List (List ℕ)) → HasParts (fresh base scripts) (map asked scripts) []
unfolding fresh
fresh_parts base scripts = record { count = sym (length-map scripts asked); connections = begin_at scripts; held = refl }

override : (run : Run) (work : Option Run) (k other : ConnectionState) (b same : Bool)
    → cond b (record (cond same (record k { work = work }) k) { work = Some run; request = None }) (cond b (record k { work = work }) other) ≡ cond b (record k { work = Some run; request = None }) other
override run work k other true true = refl
override run work k other true false = refl
override run work k other false same = refl

pub goes_on : (e : CoreState) (c : ℕ) (run : Run) (work : Option Run) (parts : CoreParts) → HasCore (going_on c run (with_connection c (record (e.connections c) { work = work }) e)) parts → HasCore (going_on c run e) parts
goes_on e c run work parts has = record {
  count = has.count;
  connections = λ d. sym (override run work (e.connections c) (e.connections d) (c == d) (c == c)) ∙ has.connections d;
  held = has.held;
}
