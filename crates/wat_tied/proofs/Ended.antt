-- Each end of a transaction but COMMIT leaves the core tied: all that stands is undone, and the transaction is gone.
use Rattle.std.proofs.Common.{◌≡◌, ℕ, is_some, true, false, List, [], ◌∷◌, ◌++◌, map, reverse, Option, Some, None, Ok, nat_eq, refl, sym, ap, ◌∙◌, subst, inl, inr}
use Rattle.std.specs.List.{fold}
use Rattle.std.proofs.lemmas.Bool.{both_ways}
use Rattle.std.proofs.lemmas.List.{append-nil, reverse-append, map-append}
use Rattle.wat_value.specs.declared.change.Change.{Change}
use Rattle.wat_schema.specs.Tables.{inverse}
use Rattle.wat_isolation.specs.Machine as law
use Rattle.wat_isolation.specs.Sql.{sql}
use Rattle.wat_isolation.proofs.Basics.{nat_same, put-same, put-other}
use Rattle.wat_isolation.proofs.Whole.{event_keeps}
use Rattle.wat_ast.specs.declared.statement.Statement.{Statement}
use Rattle.wat_parse.specs.declared.script.Span.{Span}
use Rattle.wat_parse.specs.Parsing.{parsed_at}
use Rattle.wat_cycle.specs.declared.request.Edge.{Edge}
use Rattle.wat_conn.specs.declared.answer.Answer.{Answer}
use Rattle.wat_conn.specs.declared.answer.Answer.TheVariants.{Given, Deadlock}
use Rattle.wat_conn.specs.declared.answer.Reply.TheVariants.{RolledBack}
use Rattle.wat_history.specs.Serial.{Serial}
use Rattle.wat_scans.specs.Running.{Run}
use Rattle.wat_steps.specs.State.{OpenTransaction, ConnectionState, CoreState, schema_of, with_connection}
use Rattle.wat_steps.specs.Changing.{made, undone}
use Rattle.wat_steps.specs.Answering.{IsSame, entry_at, answered, ended, rolled_back, rolled_back_from}
use Rattle.wat_steps.specs.Asking.{broken_off}
use Rattle.wat_steps.specs.Step.{closed}
use Rattle.wat_tied.specs.Tied.{Relates, AreStanding, parts_in, stood_in, made_in, standing_in, IsGoing, GoesWith, IsIdle, IsInside, MeetsWith, Ghost, Ties, IsTied}
use Rattle.wat_tied.proofs.Answered.{done, done_here, done_there, answered_relates}
use Rattle.wat_tied.proofs.Begun.{here}
use Rattle.wat_tied.proofs.Changed.{fold_append}
use Rattle.wat_tied.proofs.Ending.{left_with, freed, freed_relates}
use Rattle.wat_tied.proofs.Granted.{there, working}
use Rattle.wat_tied.proofs.Refused.{same_tied}
use Rattle.wat_tied.proofs.Renewed.{rows_stay, renewed, renewal, has_work}
use Rattle.wat_tied.specs.Told.{parts_told, commits_told, IsTold}
use Rattle.wat_tied.proofs.Telling.{AddsPlain, told_next, no_commit, told_over, told_ended}
use Rattle.wat_tied.proofs.Undone.{IsUndone, undo_all}

-- the core after the end: all but the connection is as it was after the undoing, less its locks and vacant keys
pub record IsEnd (e u after : CoreState) (c : ℕ) (k : ConnectionState) : Type 0 where
  pub undone : u ≡ fold (made c) e (map inverse (standing_in (e.connections c).transaction (e.connections c).work))
  pub no_transaction : k.transaction ≡ None
  pub no_work : k.work ≡ None
  pub here : after.connections c ≡ k
  pub there : (d : ℕ) → (d ≡ c → ⊥) → after.connections d ≡ u.connections d
  pub schema : schema_of after ≡ schema_of u
  pub stop : after.stop ≡ u.stop
  pub count : after.count ≡ u.count
  pub present : (IsInside e c → ⊥) → ⊥
  pub base : after.base ≡ u.base
  pub committed : after.committed ≡ u.committed
  pub told : IsTold k []
  pub commits : commits_told k ≡ commits_told (e.connections c)
  pub moments : after.moments ≡ u.moments
  pub adds : AddsPlain (schema_of e) (e.connections c) k
  pub relates : (t : law.State sql) → Relates (freed c u.committed u) t → Relates after t

pub end_tied : (e : CoreState) (g : Ghost) → Ties e g → (c : ℕ) (u : CoreState) (k : ConnectionState) (after : CoreState) → IsEnd e u after c k → IsTied after
end_tied e g ties c u k after end = finish r.0 (subst (λ (z : CoreState). IsUndone e z g.state r.0 c changes []) (sym end.undone) r.1)
  where
    changes : List Change
    changes = standing_in (e.connections c).transaction (e.connections c).work

    all : AreStanding (schema_of e) (changes ++ []) (g.state.conns c).standing
    all = subst (λ z. AreStanding (schema_of e) z (g.state.conns c).standing) (sym (append-nil changes)) (ties.standing c)

    r : (t : law.State sql) × IsUndone e (fold (made c) e (map inverse changes)) g.state t c changes []
    r = undo_all c changes [] e g.state ties.relates ties.kept all

    finish : (t : law.State sql) → IsUndone e u g.state t c changes [] → IsTied after
    finish t b =
        let gone : law.State sql = left_with t c t.base t.history in
        let idle : gone.conns c ≡ law.idle sql = put-same nat_eq nat_same t.conns c (law.idle sql) in
        let nothing : standing_in k.transaction k.work ≡ [] = λ j. reverse (stood_in (end.no_transaction j) ++ made_in (end.no_work j)) in
        record {
          ghost = renewal g c gone [] [] g.history;
          ties = renewed e after g ties c gone k [] [] g.history (record {
            kept = event_keeps sql t (law.Event.Leave c) b.kept b.standing.same;
            relates = end.relates gone (freed_relates u t b.relates c t.base t.history u.committed b.relates.base);
            same = end.schema ∙ b.same;
            stop = end.stop ∙ sym (ap (λ (z : CoreState). z.stop) b.others_same);
            count = end.count ∙ sym (ap (λ (z : CoreState). z.count) b.others_same);
            outside = λ out. absurd (end.present out);
            here = end.here;
            there = λ d ne. end.there d ne ∙ sym (ap (λ (z : CoreState). z.connections d) b.others_same);
            others = λ d ne. put-other nat_eq nat_same t.conns c (law.idle sql) d ne ∙ b.others d ne;
            rows = λ d ne. rows_stay g.state t ties.kept b.kept b.base d (b.others d ne);
            log = ap (λ (z : law.Connection sql). z.log) idle;
            standing = subst (λ z. AreStanding (schema_of e) z (gone.conns c).standing) (sym nothing) (record { formed = λ ch has. absurd has; same = ap (λ (z : law.Connection sql). z.standing) idle });
            idle = subst (IsIdle (gone.conns c) [] []) (sym end.no_transaction) (idle, refl, refl);
            works = λ going. subst (λ (z : Option Run). GoesWith (schema_of e) k z []) (sym end.no_work) refl;
            meets = λ going. subst (MeetsWith gone c) (sym end.no_work) tt;
            parts = λ p m. absurd m;
            told = end.told;
            based = end.base ∙ sym (ap (λ (z : CoreState). z.base) b.others_same);
            adds = end.adds;
            commits = inl (end.commits, refl, end.moments ∙ sym (ap (λ (z : CoreState). z.moments) b.others_same));
            serial = subst (λ z. Serial 3 z g.history after.committed) (sym (end.base ∙ sym (ap (λ (z : CoreState). z.base) b.others_same)))
                (subst (Serial 3 e.base g.history) (sym (end.committed ∙ sym (ap (λ (z : CoreState). z.committed) b.others_same))) ties.serial);
          });
        }

-- ---- what is undone changes no connection

undone_connections : (c : ℕ) (changes : List Change) (e : CoreState) → (fold (made c) e changes).connections ≡ e.connections
undone_connections c [] e = refl
undone_connections c (ch ∷ changes) e = undone_connections c changes (made c e ch)

-- the work's changes are undone, and then the transaction's
undone_both : (c : ℕ) (standing changes : List Change) (e : CoreState) → undone c standing (undone c changes e) ≡ fold (made c) e (map inverse (reverse (standing ++ changes)))
undone_both c standing changes e =
    sym (fold_append (made c) e (map inverse (reverse changes)) (map inverse (reverse standing)))
    ∙ ap (fold (made c) e) (sym (map-append inverse (reverse changes) (reverse standing)) ∙ ap (map inverse) (sym (reverse-append standing changes)))

pub some_is : (o : Option OpenTransaction) → is_some o ≡ true → (x : OpenTransaction) × (o ≡ Some x)
some_is None h = absurd (both_ways false refl h)
some_is (Some x) h = (x, refl)

-- the relation after an end
ends_relate : (c : ℕ) (u : CoreState) (k : ConnectionState) (t : law.State sql) → Relates (freed c u.committed u) t → Relates (with_connection c k (freed c u.committed u)) t
ends_relate c u k t r = record { scheme = r.scheme; now = r.now; base = r.base; locks = r.locks; vacant = r.vacant }

-- ---- a deadlock

pub deadlock_tied : (e after : CoreState) (c : ℕ) (run : Run) → IsTied e → e.stop ≡ None → (e.connections c).work ≡ Some run → (cycle : List Edge) → IsSame (broken_off c e run cycle) after → IsTied after
deadlock_tied e after c run tied going under cycle same =
    same_tied (broken_off c e run cycle) after (subst (λ (z : CoreState). IsTied (answered c z (Deadlock cycle) [])) (sym rolled) (end_tied e g tied.ties c u k (answered c (ended c u) (Deadlock cycle) []) (record {
      undone = undone_both c o.0.standing run.made e ∙ (λ j. fold (made c) e (map inverse (reverse (stood_in (sym o.1 j) ++ made_in (sym under j)))));
      no_transaction = refl;
      no_work = refl;
      here = done_here c (ended c u) with_none was.span was.more (Deadlock cycle) [] (here u c (record (u.connections c) { transaction = None }) ∙ ap (λ (f : ℕ → ConnectionState). record (f c) { transaction = None }) connections) was.first;
      there = λ d ne. done_there c d (ended c u) (Deadlock cycle) [] ne ∙ there u c (record (u.connections c) { transaction = None }) d ne;
      schema = refl;
      stop = refl;
      count = refl;
      present = has_work e g tied.ties c was.span was.more was.first;
      base = refl;
      committed = refl;
      told = told_over (e.connections c) k was.span (Deadlock cycle) [] refl refl was.more was.first (parts_in (g.entries c)) (tied.ties.told c) refl was.written was.read refl refl refl;
      commits = no_commit (e.connections c) k was.span (Deadlock cycle) [] refl refl (λ d p. refl);
      moments = refl;
      adds = inr (record { read = parsed_at (e.connections c).script was.span; entry = entry_at was.span (e.connections c).level (Deadlock cycle) [] }, told_next (e.connections c) k was.span (Deadlock cycle) [] refl refl, λ low. tt);
      relates = λ t r. answered_relates c (ended c u) t (Deadlock cycle) [] (ends_relate c u (record (u.connections c) { transaction = None }) t r);
    }))) same
  where
    g : Ghost
    g = tied.ghost

    was : IsGoing (schema_of e) (e.connections c) run (g.work c)
    was = working e tied c run going under

    o : (x : OpenTransaction) × ((e.connections c).transaction ≡ Some x)
    o = some_is (e.connections c).transaction was.has_transaction

    u : CoreState
    u = undone c o.0.standing (undone c run.made e)

    connections : u.connections ≡ e.connections
    connections = undone_connections c (map inverse (reverse o.0.standing)) (undone c run.made e) ∙ undone_connections c (map inverse (reverse run.made)) e

    rolled : rolled_back c (undone c run.made e) ≡ ended c u
    rolled = ap (λ t. rolled_back_from c t (undone c run.made e)) (ap (λ (f : ℕ → ConnectionState). (f c).transaction) (undone_connections c (map inverse (reverse run.made)) e) ∙ o.1)

    with_none : ConnectionState
    with_none = record (e.connections c) { transaction = None }

    k : ConnectionState
    k = done was.span was.more with_none (Deadlock cycle) []

-- ---- ROLLBACK, and the end of the script

none_some : (o : OpenTransaction) (t : Option OpenTransaction) → t ≡ None → t ≡ Some o → ⊥
none_some o t e f = cc

module _ (e : CoreState) (g : Ghost) (ties : Ties e g) (c : ℕ) (resting : (e.connections c).work ≡ None) (o : OpenTransaction) (opened : (e.connections c).transaction ≡ Some o) where
  abbrev u : CoreState
  u = undone c o.standing e

  abbrev with_none : ConnectionState
  with_none = record (e.connections c) { transaction = None }

  u_is : u ≡ fold (made c) e (map inverse (standing_in (e.connections c).transaction (e.connections c).work))
  u_is = ap (λ z. fold (made c) e (map inverse (reverse z))) (sym (append-nil o.standing)) ∙ (λ j. fold (made c) e (map inverse (reverse (stood_in (sym opened j) ++ made_in (sym resting j)))))

  connections : u.connections ≡ e.connections
  connections = undone_connections c (map inverse (reverse o.standing)) e

  has_open : (IsInside e c → ⊥) → ⊥
  has_open out = none_some o (e.connections c).transaction (ties.outside c out).no_transaction opened

  pub rolled_is : rolled_back c e ≡ ended c u
  rolled_is = ap (λ t. rolled_back_from c t e) opened

  at_c : (ended c u).connections c ≡ with_none
  at_c = here u c (record (u.connections c) { transaction = None }) ∙ ap (λ (f : ℕ → ConnectionState). record (f c) { transaction = None }) connections

  abbrev answer : Answer
  answer = Given RolledBack

  pub rollback_tied : (span : Span) (more : List Span) → (e.connections c).left ≡ span ∷ more → (written : Statement) → parsed_at (e.connections c).script span ≡ Ok written → IsTied (answered c (rolled_back c e) (Given RolledBack) [])
  rollback_tied span more first written read = subst (λ (z : CoreState). IsTied (answered c z answer [])) (sym rolled_is) (end_tied e g ties c u (done span more with_none answer []) (answered c (ended c u) answer []) (record {
    undone = u_is;
    no_transaction = refl;
    no_work = refl;
    here = done_here c (ended c u) with_none span more answer [] at_c first;
    there = λ d ne. done_there c d (ended c u) answer [] ne ∙ there u c (record (u.connections c) { transaction = None }) d ne;
    schema = refl;
    stop = refl;
    count = refl;
    present = has_open;
    base = refl;
    committed = refl;
    told = told_over (e.connections c) (done span more with_none answer []) span answer [] refl refl more first (parts_in (g.entries c)) (ties.told c) refl written read refl refl refl;
    commits = no_commit (e.connections c) (done span more with_none answer []) span answer [] refl refl (λ d p. refl);
    moments = refl;
    adds = inr (record { read = parsed_at (e.connections c).script span; entry = entry_at span (e.connections c).level answer [] }, told_next (e.connections c) (done span more with_none answer []) span answer [] refl refl, λ low. tt);
    relates = λ t r. answered_relates c (ended c u) t answer [] (ends_relate c u (record (u.connections c) { transaction = None }) t r);
  }))

  pub closing_tied : (e.connections c).left ≡ [] → IsTied (closed c e)
  closing_tied none_left = subst (λ (z : CoreState). IsTied (with_connection c (record (z.connections c) { has_ended = true }) z)) (sym rolled_is) (end_tied e g ties c u (record ((ended c u).connections c) { has_ended = true }) (with_connection c (record ((ended c u).connections c) { has_ended = true }) (ended c u)) (record {
    undone = u_is;
    no_transaction = ap (λ (z : ConnectionState). z.transaction) at_c;
    no_work = ap (λ (z : ConnectionState). z.work) at_c ∙ resting;
    here = here (ended c u) c (record ((ended c u).connections c) { has_ended = true });
    there = λ d ne. there (ended c u) c (record ((ended c u).connections c) { has_ended = true }) d ne ∙ there u c (record (u.connections c) { transaction = None }) d ne;
    schema = refl;
    stop = refl;
    count = refl;
    present = has_open;
    base = refl;
    committed = refl;
    told = told_ended ((ended c u).connections c) [] (ap (λ (z : ConnectionState). z.left) at_c ∙ none_left);
    commits = ap (λ (z : ConnectionState). commits_told (record z { has_ended = true })) at_c;
    moments = refl;
    adds = inl (ap (λ (z : ConnectionState). parts_told (record z { has_ended = true })) at_c);
    relates = λ t r. record { scheme = r.scheme; now = r.now; base = r.base; locks = r.locks; vacant = r.vacant };
  }))
