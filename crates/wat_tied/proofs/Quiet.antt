-- The core stays tied where a statement is answered at once, and its entry is no part of a transaction.
use Rattle.std.proofs.Common.{◌≡◌, ap, ℕ, ◌==◌, Bool, true, false, not, ◌&&◌, is_some, List, [], ◌∷◌, ◌++◌, Option, None, refl, sym, ◌∙◌, subst}
use Rattle.wat_list.proofs.Members.{filter_has}
use Rattle.wat_value.specs.declared.change.Act.{Act}
use Rattle.wat_parse.specs.declared.script.Span.{Span}
use Rattle.wat_locks.specs.declared.held.Held.{Held}
use Rattle.wat_locks.specs.Held.{entry}
use Rattle.wat_level.specs.Wanted.{long_want}
use Rattle.wat_protocol.specs.Locked.{lock_of, AreHeld}
use Rattle.wat_isolation.specs.Machine as law
use Rattle.wat_isolation.specs.Sql.{sql}
use Rattle.wat_conn.specs.declared.answer.Answer.{Answer}
use Rattle.wat_scans.specs.Running.{Run}
use Rattle.wat_steps.specs.State.{OpenTransaction, ConnectionState, CoreState, schema_of, with_connection}
use Rattle.wat_steps.specs.Answering.{entry_at, with_answer, without_short, answered}
use Rattle.wat_tied.specs.Told.{commits_told, IsTold}
use Rattle.wat_tied.specs.Tied.{AreStanding, parts_in, standing_in, GoesWith, IsIdle, Ghost, Ties, IsTied}
use Rattle.wat_tied.proofs.Renewed.{has_work}
use Rattle.wat_tied.proofs.Telling.{AddsPlain}
use Rattle.wat_tied.proofs.Updated.{with_tied}

neither : (b : Bool) → not (b && false) ≡ true
neither true = refl
neither false = refl

-- the long locks stay where short ones go
pub long_held : (s : law.State sql) (c : ℕ) (held : List Held) → AreHeld s held → AreHeld s (without_short c held)
long_held s c held are d lock has = filter_has (λ (h : Held). not ((h.conn == c) && is_some h.short)) (entry d (long_want (lock_of lock))) held (are d lock has) (neither (d == c))

with_fewer : (e : CoreState) (c : ℕ) (g : Ghost) → Ties e g → Ties (record e { held = without_short c e.held }) g
with_fewer e c g ties = record {
  schema = ties.schema;
  kept = ties.kept;
  relates = record { scheme = ties.relates.scheme; now = ties.relates.now; base = ties.relates.base; locks = long_held g.state c e.held ties.relates.locks; vacant = ties.relates.vacant };
  log = ties.log;
  standing = ties.standing;
  idle = ties.idle;
  parts = ties.parts;
  serial = ties.serial;
  told = ties.told;
  plain = ties.plain;
  history = record { all = ties.history.all; numbers = ties.history.numbers; moments = ties.history.moments };
  outside = λ c out. ties.outside c (λ i. out (record { from_one = i.from_one; within = i.within }));
  works = ties.works;
  meets = ties.meets;
}

-- the connection after an answer to the first statement that was left
abbrev pub done : Span → List Span → ConnectionState → Answer → List Act → ConnectionState
done span more k answer acts = record k { left = more; transcript = k.transcript ++ entry_at span k.level answer acts ∷ []; work = None; request = None }

same_transaction : (left : List Span) (k : ConnectionState) (answer : Answer) → (with_answer left k answer []).transaction ≡ k.transaction
same_transaction [] k answer = refl
same_transaction (span ∷ more) k answer = refl

-- What is recorded stays, where the entry joins no transaction and commits nothing.
pub quiet_tied : (e : CoreState) (c : ℕ) (answer : Answer) → (tied : IsTied e) → e.stop ≡ None → (e.connections c).work ≡ None → (span : Span) (more : List Span) → (e.connections c).left ≡ span ∷ more
    → IsTold (done span more (e.connections c) answer []) (parts_in (tied.ghost.entries c)) → commits_told (done span more (e.connections c) answer []) ≡ commits_told (e.connections c) → AddsPlain (schema_of e) (e.connections c) (done span more (e.connections c) answer []) → IsTied (answered c e answer [])
quiet_tied e c answer tied going free span more first told commits adds =
    let g : Ghost = tied.ghost in
    let old : ConnectionState = e.connections c in
    let k : ConnectionState = record (with_answer old.left old answer []) { work = None; request = None } in
    let is : k ≡ done span more old answer [] = ap (λ z. record (with_answer z old answer []) { work = None; request = None }) first in
    record {
      ghost = g;
      ties =
          with_fewer (with_connection c k e) c g
          (with_tied e g c k tied.ties (record {
            standing =
                subst (λ (t : Option OpenTransaction). AreStanding (schema_of e) (standing_in t None) (g.state.conns c).standing) (sym (same_transaction old.left old answer))
                (subst (λ (work : Option Run). AreStanding (schema_of e) (standing_in old.transaction work) (g.state.conns c).standing) free (tied.ties.standing c));
            idle = subst (λ (t : Option OpenTransaction). IsIdle (g.state.conns c) (g.entries c) (g.work c) t) (sym (same_transaction old.left old answer)) (tied.ties.idle c);
            outside = λ out. absurd (has_work e g tied.ties c span more first out);
            works = λ on. subst (λ (z : Option Run). GoesWith (schema_of e) old z (g.work c)) free (tied.ties.works going c);
            meets = λ on. tt;
            told = subst (λ (z : ConnectionState). IsTold z (parts_in (g.entries c))) (sym is) told;
            commits = ap commits_told is ∙ commits;
            adds = subst (AddsPlain (schema_of e) old) (sym is) adds;
          }));
    }
