-- COMMIT leaves the core tied: the serial history grows by one transaction.
use Rattle.std.proofs.Common.{◌≡◌, ℕ, List, [], ◌∷◌, ◌++◌, reverse, Option, Some, None, Ok, nat_eq, refl, sym, ap, ◌∙◌, subst, inr}
use Rattle.std.specs.List.{fold}
use Rattle.std.proofs.lemmas.List.{append-nil, reverse-reverse}
use Rattle.wat_ast.specs.declared.statement.Statement.{Statement}
use Rattle.wat_parse.specs.declared.script.Span.{Span}
use Rattle.wat_parse.specs.Parsing.{parsed_at}
use Rattle.wat_schema.specs.Tables.{Tables}
use Rattle.wat_isolation.specs.Rows.{Scheme}
use Rattle.wat_isolation.specs.Logs.{Committed.Ran, Alone, view}
use Rattle.wat_isolation.specs.Machine as law
use Rattle.wat_isolation.specs.Naming.{scheme_of}
use Rattle.wat_isolation.specs.Sql.{sql}
use Rattle.wat_isolation.proofs.Basics.{nat_same, put-same, put-other}
use Rattle.wat_isolation.proofs.Whole.{event_keeps}
use Rattle.wat_meaning.specs.Meaning.{after_change}
use Rattle.wat_conn.specs.declared.answer.Answer.{Answer}
use Rattle.wat_conn.specs.declared.answer.Answer.TheVariants.{Given}
use Rattle.wat_conn.specs.declared.answer.Reply.TheVariants as reply
use Rattle.wat_history.specs.History.{Commit}
use Rattle.wat_history.specs.Serial.{Follows}
use Rattle.wat_history.proofs.SerialLemmas.{grows}
use Rattle.wat_scans.specs.Look.{IsOf}
use Rattle.wat_scans.specs.Running.{Run}
use Rattle.wat_steps.specs.State.{OpenTransaction, ConnectionState, CoreState, schema_of}
use Rattle.wat_steps.specs.Answering.{IsSame, entry_at, ended}
use Rattle.wat_steps.specs.Statements.{committed, next_number}
use Rattle.wat_tied.specs.Tied.{Relates, items_in, parts_in, stood_in, made_in, standing_in, GoesWith, Ghost, Ties, IsTied}
use Rattle.wat_tied.proofs.Alike.{alike}
use Rattle.wat_tied.proofs.Answered.{done, done_here, done_there, answered_relates}
use Rattle.wat_tied.proofs.Begun.{here}
use Rattle.wat_tied.proofs.Ending.{seen_by, left_with, freed_relates}
use Rattle.wat_tied.proofs.Granted.{there}
use Rattle.wat_tied.proofs.Renewed.{renewed, renewal, has_work}
use Rattle.wat_tied.proofs.Same.{same_ties}
use Rattle.wat_tied.proofs.Serially.{follows}
use Rattle.wat_tied.proofs.Telling.{told_next, commits_next, told_over}
use Rattle.wat_tied.specs.Told.{commits_told}

module _ (e : CoreState) (g : Ghost) (ties : Ties e g) (c : ℕ) (going : e.stop ≡ None) (resting : (e.connections c).work ≡ None) (o : OpenTransaction) (opened : (e.connections c).transaction ≡ Some o)
    (span : Span) (more : List Span) (first : (e.connections c).left ≡ span ∷ more) (written : Statement) (read : parsed_at (e.connections c).script span ≡ Ok written) (moment : ℕ) where
  abbrev s : law.State sql
  s = g.state

  abbrev t : law.State sql
  t = left_with s c (view sql s.base (s.conns c).log) (Ran s.scheme (s.conns c).log ∷ s.history)

  abbrev new_base : Tables
  new_base = fold after_change e.committed o.standing

  abbrev mid : CoreState
  mid = ended c (record e { committed = new_base; moments = e.moments ++ moment ∷ [] })

  abbrev answer : Answer
  answer = Given (reply.Committed (next_number e))

  abbrev with_none : ConnectionState
  with_none = record (e.connections c) { transaction = None }

  abbrev k : ConnectionState
  k = done span more with_none answer []

  abbrev commit : Commit
  commit = record { number = next_number e; parts = parts_in (g.entries c) }

  all_is : standing_in (e.connections c).transaction (e.connections c).work ≡ reverse (o.standing ++ [])
  all_is = λ j. reverse (stood_in (opened j) ++ made_in (resting j))

  stood_is : reverse (standing_in (e.connections c).transaction (e.connections c).work) ≡ o.standing
  stood_is = ap reverse all_is ∙ (reverse-reverse (o.standing ++ []) ∙ append-nil o.standing)

  seen : IsOf (schema_of e) (view sql s.base (s.conns c).log) new_base
  seen = subst (λ z. IsOf (schema_of e) (view sql s.base (s.conns c).log) (fold after_change e.committed z)) stood_is
      (seen_by e s ties.relates ties.kept c (standing_in (e.connections c).transaction (e.connections c).work) (ties.standing c))

  related : Relates mid t
  related = let r = freed_relates e s ties.relates c (view sql s.base (s.conns c).log) (Ran s.scheme (s.conns c).log ∷ s.history) new_base seen in
      record { scheme = r.scheme; now = r.now; base = r.base; locks = r.locks; vacant = r.vacant }

  no_work : g.work c ≡ []
  no_work = subst (λ (z : Option Run). GoesWith (schema_of e) (e.connections c) z (g.work c)) resting (ties.works going c)

  log_is : (s.conns c).log ≡ items_in (g.entries c)
  log_is = ties.log c ∙ ap (λ z. z ++ items_in (g.entries c)) no_work

  alone : Alone sql (scheme_of (schema_of e)) s.base (items_in (g.entries c))
  alone = subst (Alone sql (scheme_of (schema_of e)) s.base) log_is (subst (λ (z : Scheme sql). Alone sql z s.base (s.conns c).log) ties.relates.scheme (ties.kept.open_serial c))

  went : (after : Tables) × Follows 3 e.committed (parts_in (g.entries c)) after × IsOf (schema_of e) (view sql s.base (items_in (g.entries c))) after
  went = follows (schema_of e) s.base e.committed ties.relates.base (g.entries c) (ties.parts c) alone

  after_is : went.0 ≡ new_base
  after_is = alike (schema_of e) (view sql s.base (s.conns c).log) went.0 new_base (subst (λ z. IsOf (schema_of e) (view sql s.base z) went.0) (sym log_is) went.2) seen

  pub commit_ties : Ties (committed c moment (Some o) e) (renewal g c t [] [] (g.history ++ commit ∷ []))
  commit_ties = renewed e (committed c moment (Some o) e) g ties c t k [] [] (g.history ++ commit ∷ []) (record {
    kept = event_keeps sql s (law.Event.Commit c) ties.kept tt;
    relates = answered_relates c mid t answer [] related;
    same = refl;
    stop = refl;
    count = refl;
    outside = λ out. absurd (has_work e g ties c span more first out);
    here = done_here c mid with_none span more answer [] (here e c with_none) first;
    there = λ d ne. done_there c d mid answer [] ne ∙ there e c with_none d ne;
    others = λ d ne. put-other nat_eq nat_same s.conns c (law.idle sql) d ne;
    rows = λ d ne r h. refl;
    log = ap (λ (z : law.Connection sql). z.log) (put-same nat_eq nat_same s.conns c (law.idle sql));
    standing = record { formed = λ ch has. absurd has; same = ap (λ (z : law.Connection sql). z.standing) (put-same nat_eq nat_same s.conns c (law.idle sql)) };
    idle = (put-same nat_eq nat_same s.conns c (law.idle sql), refl, refl);
    works = λ on. refl;
    meets = λ on. tt;
    parts = λ p m. absurd m;
    told = told_over (e.connections c) k span answer [] refl refl more first (parts_in (g.entries c)) (ties.told c) refl written read refl refl refl;
    based = refl;
    adds = inr (record { read = parsed_at (e.connections c).script span; entry = entry_at span (e.connections c).level answer [] }, told_next (e.connections c) k span answer [] refl refl, λ low. tt);
    commits = inr (
      commit,
      moment,
      commits_next (e.connections c) k span answer [] refl refl ∙ ap (λ z. commits_told (e.connections c) ++ record { number = next_number e; parts = z } ∷ []) ((ties.told c).open_parts ((ties.told c).goes span more first)),
      refl,
      refl,
      refl,
      λ out. has_work e g ties c span more first (λ i. out (i.from_one, i.within)),
    );
    serial = grows 3 e.base e.committed new_base g.history commit ties.serial (subst (Follows 3 e.committed (parts_in (g.entries c))) after_is went.1);
  })

pub commit_tied : (e after : CoreState) (c : ℕ) → IsTied e → e.stop ≡ None → (e.connections c).work ≡ None → (o : OpenTransaction) → (e.connections c).transaction ≡ Some o
    → (span : Span) (more : List Span) → (e.connections c).left ≡ span ∷ more → (written : Statement) → parsed_at (e.connections c).script span ≡ Ok written → (moment : ℕ) → IsSame (committed c moment (Some o) e) after → IsTied after
commit_tied e after c tied going resting o opened span more first written read moment same =
    let g : Ghost = tied.ghost in
    let t : law.State sql = left_with g.state c (view sql g.state.base (g.state.conns c).log) (Ran g.state.scheme (g.state.conns c).log ∷ g.state.history) in
    let next : Ghost = renewal g c t [] [] (g.history ++ record { number = next_number e; parts = parts_in (g.entries c) } ∷ []) in
    record { ghost = next; ties = same_ties (committed c moment (Some o) e) after next same (commit_ties e g tied.ties c going resting o opened span more first written read moment) }
