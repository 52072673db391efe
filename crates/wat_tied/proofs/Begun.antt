-- The core stays tied where a transaction is opened, and where a statement that is checked is begun.
use Rattle.std.proofs.Common.{◌≡◌, ℕ, Bool, true, false, ◌==◌, if◌then◌else◌, List, [], ◌∷◌, Option, Some, None, Ok, refl, sym, ap, ◌∙◌, subst, inl, unwrap_or}
use Rattle.std.proofs.lemmas.Bool.{eq-eqb}
use Rattle.wat_ast.specs.declared.statement.Statement.{Statement}
use Rattle.wat_parse.specs.declared.script.Span.{Span}
use Rattle.wat_parse.specs.Parsing.{parsed_at}
use Rattle.wat_schema.specs.Catalog.{Catalog}
use Rattle.wat_isolation.specs.Machine as law
use Rattle.wat_isolation.specs.Sql.{sql}
use Rattle.wat_plan.specs.Scanned.{ScansEach}
use Rattle.wat_rules.specs.Check.{check}
use Rattle.wat_scans.specs.Running.{Run, begin, task_of}
use Rattle.wat_scans.specs.Scans.{begun as begun_scans}
use Rattle.wat_scans.specs.Told.{IsStepped}
use Rattle.wat_scans.proofs.Going.{begin_goes}
use Rattle.wat_scans.proofs.Passing.{begun_pass}
use Rattle.wat_scans.proofs.Planned.{task_planned}
use Rattle.wat_steps.specs.State.{OpenTransaction, ConnectionState, CoreState, schema_of, with_connection}
use Rattle.wat_steps.specs.Answering.{IsSame, no_changes, opened, transaction_of}
use Rattle.wat_steps.specs.Statements.{begun}
use Rattle.wat_tied.specs.Tied.{AreStanding, standing_in, GoesWith, MeetsWith, Ghost, Ties, IsTied}
use Rattle.wat_tied.proofs.Aims.{begun_aims, meets_unchanged}
use Rattle.wat_tied.proofs.Meeting.{begun_meeting}
use Rattle.wat_tied.proofs.Placed.{begun_placed}
use Rattle.wat_tied.proofs.Renewed.{has_work}
use Rattle.wat_tied.proofs.Same.{same_ties}
use Rattle.wat_tied.proofs.Updated.{with_tied}

pub here : (e : CoreState) (c : ℕ) (k : ConnectionState) → (with_connection c k e).connections c ≡ k
here e c k = by (c == c) refl
  where
    by : (b : Bool) → (c == c) ≡ b → (if b then k else e.connections c) ≡ k
    by true is = refl
    by false is = absurd (no (sym is ∙ eq-eqb c c refl))
      where
        no : false ≡ true → ⊥
        no e = cc

-- ---- a transaction is open

stands_open : (transaction : Option OpenTransaction) (work : Option Run) → standing_in (Some (unwrap_or transaction no_changes)) work ≡ standing_in transaction work
stands_open None work = refl
stands_open (Some t) work = refl

-- ---- a statement is begun

-- nothing is met yet
begun_meets : (cat : Catalog) (s : law.State sql) (c level : ℕ) (x : Statement) → ScansEach cat (task_of cat x).plan → MeetsWith s c (Some (begin cat level x))
unfolding begin
begun_meets cat s c level x ok =
    meets_unchanged s c (record { task = task_of cat x; level = level; progress = begun_scans (task_of cat x).plan; made = [] }) refl (begun_scans (task_of cat x).plan)
    (begun_meeting cat (task_of cat x).plan ok) (begun_pass (task_of cat x).plan) (λ writes l sources. begun_aims cat (task_of cat x).plan ok l sources s c)

-- the connection with a transaction open, and this statement under way
abbrev with_run : CoreState → ℕ → Statement → ConnectionState
with_run e c x = record (e.connections c) { transaction = Some (transaction_of c e); work = Some (begin (schema_of e) (e.connections c).level x) }

begun_here : (e : CoreState) (g : Ghost) (c : ℕ) → Ties e g → (e.connections c).work ≡ None
    → (span : Span) (more : List Span) → (e.connections c).left ≡ span ∷ more → (written : Statement) → parsed_at (e.connections c).script span ≡ Ok written
    → (x : Statement) → check (schema_of e) written ≡ Ok x → IsStepped x → Ties (with_connection c (with_run e c x) e) g
unfolding begin
begun_here e g c ties free span more first written read x checked stepped =
    let k : ConnectionState = e.connections c in
    let run : Run = begin (schema_of e) k.level x in
    with_tied e g c (with_run e c x) ties (record {
      standing = subst (λ changes. AreStanding (schema_of e) changes (g.state.conns c).standing) (sym (stands_open k.transaction None))
          (subst (λ (work : Option Run). AreStanding (schema_of e) (standing_in k.transaction work) (g.state.conns c).standing) free (ties.standing c));
      idle = tt;
      outside = λ out. absurd (has_work e g ties c span more first out);
      works = λ going. record {
        span = span;
        more = more;
        first = first;
        written = written;
        read = read;
        statement = x;
        checked = checked;
        stepped = stepped;
        level = refl;
        visits = [];
        going = begin_goes (schema_of e) k.level x (task_planned (schema_of e) x ties.schema);
        placed = begun_placed (task_of (schema_of e) x).plan;
        reads = [];
        reading = tt;
        at_three = λ at. refl;
        recorded = subst (λ (work : Option Run). GoesWith (schema_of e) k work (g.work c)) free (ties.works going c);
        has_transaction = refl;
      };
      meets = λ going. begun_meets (schema_of e) g.state c k.level x (task_planned (schema_of e) x ties.schema);
      told = let t = ties.told c in record { goes = t.goes; open_parts = t.open_parts; opens = λ e w. absurd (no run w) };
      commits = refl;
      adds = inl refl;
    })
  where
    no : (run : Run) → ◌≡◌ {A = Option Run} (Some run) None → ⊥
    no run w = cc

-- a connection's state given anew twice
twice : (e : CoreState) (c : ℕ) (k l : ConnectionState) → with_connection c l (with_connection c k e) ≡ with_connection c l e
twice e c k l = λ j. record e { connections = λ d. by d (c == d) j }
  where
    by : (d : ℕ) (b : Bool) → (if b then l else (if b then k else e.connections d)) ≡ (if b then l else e.connections d)
    by d true = refl
    by d false = refl

begun_is : (e : CoreState) (c : ℕ) (x : Statement) → (begun c (opened c e) (Ok x)).1 ≡ with_connection c (with_run e c x) e
begun_is e c x =
    let k : ConnectionState = record (e.connections c) { transaction = Some (transaction_of c e) } in
    ap (λ (q : ConnectionState). with_connection c (record q { work = Some (begin (schema_of e) q.level x) }) (with_connection c k e)) (here e c k)
    ∙ twice e c k (with_run e c x)

pub begun_tied : (e after : CoreState) (c : ℕ) → IsTied e → (e.connections c).work ≡ None
    → (span : Span) (more : List Span) → (e.connections c).left ≡ span ∷ more → (written : Statement) → parsed_at (e.connections c).script span ≡ Ok written
    → (x : Statement) → check (schema_of e) written ≡ Ok x → IsStepped x → IsSame (begun c (opened c e) (Ok x)).1 after → IsTied after
begun_tied e after c tied free span more first written read x checked stepped same = record {
  ghost = tied.ghost;
  ties = same_ties (begun c (opened c e) (Ok x)).1 after tied.ghost same
      (subst (λ (z : CoreState). Ties z tied.ghost) (sym (begun_is e c x)) (begun_here e tied.ghost c tied.ties free span more first written read x checked stepped));
}
