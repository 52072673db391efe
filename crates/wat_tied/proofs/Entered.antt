-- An entry that changes no row, of a connection with a transaction open, leaves the core tied.
use Rattle.std.proofs.Common.{◌≡◌, ℕ, false, is_some, List, [], ◌∷◌, ◌++◌, reverse, Option, Some, None, Result, Ok, Err, refl, sym, ap, ◌∙◌, subst, inl, ⊎_elim}
use Rattle.std.proofs.lemmas.Bool.{both_ways}
use Rattle.wat_list.specs.Has.{Has}
use Rattle.wat_value.specs.Changes.{RowName}
use Rattle.wat_ast.specs.declared.statement.Statement.{Statement}
use Rattle.wat_parse.specs.declared.script.Span.{Span}
use Rattle.wat_parse.specs.Parsing.{parsed_at}
use Rattle.wat_schema.specs.declared.refusal.Refusal.{Refusal}
use Rattle.wat_schema.specs.Catalog.{Catalog}
use Rattle.wat_schema.specs.Tables.{Row, Tables}
use Rattle.wat_isolation.specs.Machine as law
use Rattle.wat_isolation.specs.Sql.{sql}
use Rattle.wat_rules.specs.Check.{check}
use Rattle.wat_meaning.specs.declared.reply.Reply.{Reply as Meant}
use Rattle.wat_meaning.specs.declared.reply.Reply.TheVariants as meant_reply
use Rattle.wat_meaning.specs.Meaning.{meaning, has_meaning, after_check}
use Rattle.wat_conn.specs.declared.answer.Answer.{Answer}
use Rattle.wat_conn.specs.declared.answer.Answer.TheVariants.{Refused}
use Rattle.wat_history.specs.Serial.{says, Means, Serial}
use Rattle.wat_scans.specs.Look.{IsOf}
use Rattle.wat_scans.specs.Running.{Run}
use Rattle.wat_steps.specs.State.{OpenTransaction, ConnectionState, CoreState, schema_of}
use Rattle.wat_steps.specs.Answering.{answered}
use Rattle.wat_tied.specs.Tied.{Relates, AreStanding, RecordedPart, IsDetermined, items_in, parts_in, stood_in, standing_in, GoesWith, IsInside, Ghost, Ties, IsTied}
use Rattle.wat_tied.specs.Told.{commits_told, IsTold}
use Rattle.wat_tied.proofs.Answered.{done, done_here, done_there, answered_relates, part_of}
use Rattle.wat_tied.proofs.Granted.{not_idle}
use Rattle.wat_tied.proofs.Telling.{AddsPlain}
use Rattle.wat_tied.proofs.Renewed.{renewed, renewal}

-- the same core but for this connection
pub record IsBut (e other : CoreState) (c : ℕ) (k : ConnectionState) : Type 0 where
  pub here : other.connections c ≡ k
  pub there : (d : ℕ) → (d ≡ c → ⊥) → other.connections d ≡ e.connections d
  pub rest : record e { connections = other.connections } ≡ other

pub but_itself : (e : CoreState) (c : ℕ) → IsBut e e c (e.connections c)
but_itself e c = record { here = refl; there = λ d ne. refl; rest = refl }

pub but_relates : (e other : CoreState) (c : ℕ) (k : ConnectionState) (s : law.State sql) → IsBut e other c k → Relates e s → Relates other s
but_relates e other c k s but r =
    subst (λ (z : CoreState). Relates z s) but.rest (record { scheme = r.scheme; now = r.now; base = r.base; locks = r.locks; vacant = r.vacant })

-- with no statement under way nothing is recorded of one
pub no_work : (e : CoreState) (g : Ghost) → Ties e g → (c : ℕ) → e.stop ≡ None → (e.connections c).work ≡ None → g.work c ≡ []
no_work e g ties c going resting = subst (λ (z : Option Run). GoesWith (schema_of e) (e.connections c) z (g.work c)) resting (ties.works going c)

module _ (e : CoreState) (g : Ghost) (ties : Ties e g) (c : ℕ) (going : e.stop ≡ None) (resting : (e.connections c).work ≡ None)
    (mid : CoreState) (before : ConnectionState) (but : IsBut e mid c before) (t : OpenTransaction) (opened : before.transaction ≡ Some t) (stands : t.standing ≡ stood_in (e.connections c).transaction)
    (span : Span) (more : List Span) (first : before.left ≡ span ∷ more) (present : (IsInside e c → ⊥) → ⊥) (answer : Answer)
    (means : (f : RowName → Option Row) (tables : Tables) → IsOf (schema_of e) f tables → Means 3 tables (part_of before span answer []))
    (told : IsTold (done span more before answer []) (parts_in (g.entries c) ++ part_of before span answer [] ∷ [])) (commits : commits_told (done span more before answer []) ≡ commits_told (e.connections c)) (adds : AddsPlain (schema_of e) (e.connections c) (done span more before answer [])) where
  abbrev k : ConnectionState
  k = done span more before answer []

  abbrev recorded : RecordedPart
  recorded = record { part = part_of before span answer []; items = [] }

  abbrev after : CoreState
  after = answered c mid answer []

  determined : IsDetermined (schema_of e) recorded
  determined = record { means = λ f tables is alone. means f tables is; effect = λ f tables is alone. (tables, refl, is) }

  old : AreStanding (schema_of e) (standing_in (Some t) None) (g.state.conns c).standing
  old = subst (λ z. AreStanding (schema_of e) (reverse (z ++ [])) (g.state.conns c).standing) (sym stands)
      (subst (λ (z : Option Run). AreStanding (schema_of e) (standing_in (e.connections c).transaction z) (g.state.conns c).standing) resting (ties.standing c))

  pub entered_tied : IsTied after
  entered_tied = record {
    ghost = renewal g c g.state (recorded ∷ g.entries c) [] g.history;
    ties = renewed e after g ties c g.state k (recorded ∷ g.entries c) [] g.history (record {
      kept = ties.kept;
      relates = answered_relates c mid g.state answer [] (but_relates e mid c before g.state but ties.relates);
      same = sym (ap (λ (z : CoreState). schema_of z) but.rest);
      stop = sym (ap (λ (z : CoreState). z.stop) but.rest);
      count = sym (ap (λ (z : CoreState). z.count) but.rest);
      outside = λ out. absurd (present out);
      here = done_here c mid before span more answer [] but.here first;
      there = λ d ne. done_there c d mid answer [] ne ∙ but.there d ne;
      others = λ d ne. refl;
      rows = λ d ne r h. refl;
      log = ties.log c ∙ ap (λ z. z ++ items_in (g.entries c)) (no_work e g ties c going resting);
      standing = subst (λ (z : Option OpenTransaction). AreStanding (schema_of e) (standing_in z None) (g.state.conns c).standing) (sym opened) old;
      idle = not_idle (g.state.conns c) (recorded ∷ g.entries c) [] before.transaction (ap is_some opened);
      works = λ on. refl;
      meets = λ on. tt;
      parts = λ p m. ⊎_elim (λ (h : recorded ≡ p). subst (IsDetermined (schema_of e)) h determined) (λ (h : Has p (g.entries c)). ties.parts c p h) m;
      serial = subst (λ (z : CoreState). Serial 3 z.base g.history z.committed) but.rest ties.serial;
      told = told;
      based = sym (ap (λ (z : CoreState). z.base) but.rest);
      adds = adds;
      commits = inl (commits, refl, sym (ap (λ (z : CoreState). z.moments) but.rest));
    });
  }

-- ---- what answers mean that say nothing, or of a statement without meaning, or one that the checks refuse

pub says_nothing : (k : ConnectionState) (span : Span) (answer : Answer) → says answer ≡ None → (t : Tables) → Means 3 t (part_of k span answer [])
says_nothing k span answer none t = λ x r read has serial said. absurd (let no : ◌≡◌ {A = Option Meant} None (Some r) = sym none ∙ said in cc)

pub no_meaning : (k : ConnectionState) (span : Span) (answer : Answer) (written : Statement) → parsed_at k.script span ≡ Ok written → has_meaning written ≡ false → (t : Tables) → Means 3 t (part_of k span answer [])
no_meaning k span answer written at none t = λ x r read has serial said.
    let both : Ok written ≡ Ok x = sym at ∙ read in
    let same : written ≡ x = cc in
    absurd (both_ways (has_meaning written) none (ap has_meaning same ∙ has))

pub not_read : (k : ConnectionState) (span : Span) (answer : Answer) (at : ℕ) → parsed_at k.script span ≡ Err at → (t : Tables) → Means 3 t (part_of k span answer [])
not_read k span answer at failed t = λ x r read has serial said. absurd (let no : ◌≡◌ {A = Result Statement ℕ} (Err at) (Ok x) = sym failed ∙ read in cc)

pub check_refuses : (c : Catalog) (k : ConnectionState) (span : Span) (written : Statement) (refusal : Refusal) → parsed_at k.script span ≡ Ok written → check c written ≡ Err refusal
    → (f : RowName → Option Row) (t : Tables) → IsOf c f t → Means 3 t (part_of k span (Refused refusal) [])
unfolding meaning
check_refuses c k span written refusal at refused f t is = λ x r read has serial said.
    let both : Ok written ≡ Ok x = sym at ∙ read in
    let same : written ≡ x = cc in
    let one : meant_reply.Refused refusal ≡ r = cc in
    ap (meaning t) (sym same) ∙ (ap (after_check t) (ap (λ z. check z written) is.schema ∙ refused) ∙ λ j. record { answer = one j; acts = [] })
