-- The turns of one connection alone are one history.
use Rattle.std.proofs.Common.{◌≡◌, ℕ, Bool, inl, inr, List, [], ◌∷◌, ◌++◌, map, Option, Some, None, Result, refl, sym, ◌∙◌, ap, subst, if◌then◌else◌, append_assoc}
use Rattle.std.specs.List.{AllByRecursion, flat_map, fold}
use Rattle.std.proofs.lemmas.List.{map-append}
use Rattle.std.proofs.lemmas.List.Concat.{flat_map-append}
use Rattle.std.proofs.lemmas.List.Sums.{fold-append}
use Rattle.wat_value.specs.declared.change.Act.{Act}
use Rattle.wat_ast.specs.declared.statement.Statement.{Statement}
use Rattle.wat_parse.specs.declared.script.Span.{Span}
use Rattle.wat_schema.specs.Tables.{Tables}
use Rattle.wat_meaning.specs.declared.reply.Reply.{Reply as Meant}
use Rattle.wat_conn.specs.declared.answer.Reason.{Reason}
use Rattle.wat_conn.specs.declared.session.TableName.{TableName}
use Rattle.wat_history.specs.Connection.{Connection, Part, Transaction, next, part_of, parts_of}
use Rattle.wat_history.specs.Cut.{first_stopped}
use Rattle.wat_history.specs.Fits.{AreAnswered, IsStopped}
use Rattle.wat_history.specs.History.{Commit, commits_from}
use Rattle.wat_history.specs.History as history
use Rattle.wat_history.specs.Naming.{after_act}
use Rattle.wat_history.specs.Single.{IsAlone, Stage}
use Rattle.wat_history.proofs.OpenLemmas.{stopped_stays}
use Rattle.wat_commit_log.specs.Logged.{acts_of, all_acts}
use Rattle.wat_alone.specs.Alone.{State, turn}
use Rattle.wat_alone.specs.Committing.{committed_by}
use Rattle.wat_turns.specs.Turns.{IsTurn, Lead, committed_from}
use Rattle.wat_turns.proofs.Standing.{Stands}
use Rattle.wat_session.specs.Session.{stopped_at, unanswered}
use Rattle.wat_one_history.proofs.Turning.{SameOpen, Told, conn_at, effects_of, part_by, stage_at, told}

abbrev pub acts_of_parts : List Part → List Act
acts_of_parts parts = flat_map (λ (p : Part). p.entry.acts) parts

-- What the turns of these entries come to, whatever stands behind them.
pub record Led (o : Option Transaction) (k : Tables) (st last : State) (parts : List Part) : Type 0 where
  pub then_open : Option Transaction
  pub committed : Tables
  pub connection : fold next (conn_at o) parts ≡ conn_at then_open
  pub opening : SameOpen then_open last.changes
  pub stands : Stands committed last
  pub same : map acts_of (committed_from st parts) ≡ effects_of (commits_from (conn_at o) parts)
  pub names : (n : List TableName) → fold after_act n (acts_of_parts parts) ≡ fold after_act n (all_acts (committed_from st parts))
  pub unstopped : (more : List Part) → first_stopped (conn_at o) (parts ++ more) ≡ first_stopped (conn_at then_open) more
  pub answered : (stop : Option Reason) (more : List Part) → AreAnswered stop (conn_at then_open) more → AreAnswered stop (conn_at o) (parts ++ more)
  pub alone : (more : List Part) (end : Stage) → IsAlone (stage_at committed last) more end → IsAlone (stage_at k st) (parts ++ more) end

led_none : (o : Option Transaction) (k : Tables) (st last : State) → st ≡ last → SameOpen o st.changes → Stands k st → Led o k st last []
led_none o k st last same opening stands = record {
  then_open = o;
  committed = k;
  connection = refl;
  opening = subst (λ (s : State). SameOpen o s.changes) same opening;
  stands = subst (Stands k) same stands;
  same = refl;
  names = λ n. refl;
  unstopped = λ more. refl;
  answered = λ stop more h. h;
  alone = λ more end h. subst (λ (s : State). IsAlone (stage_at k s) more end) (sym same) h;
}

led_more : (o : Option Transaction) (k : Tables) (st last : State) (read : Result Statement ℕ) (from to : ℕ) (parts : List Part) → (t : Told o k st read from to (turn st read)) → Led t.then_open t.committed_then (turn st read).next last parts
    → Led o k st last (part_by from to read (turn st read) ∷ parts)
led_more o k st last read from to parts t rest =
    let one = turn st read in
    let p = part_by from to read one in
    let c = conn_at o in
    record {
      then_open = rest.then_open;
      committed = rest.committed;
      connection = ap (λ (d : Connection). fold next d parts) t.next_is ∙ rest.connection;
      opening = rest.opening;
      stands = rest.stands;
      same = map-append acts_of (committed_by one) (committed_from one.next parts) ∙ (λ j. t.same j ++ rest.same j)
          ∙ ap (λ (d : Connection). effects_of (history.committed_by c p one.answer) ++ effects_of (commits_from d parts)) (sym t.next_is)
          ∙ sym (map-append (λ (commit : Commit). history.effect commit.parts) (history.committed_by c p one.answer) (commits_from (next c p) parts));
      names = λ n. fold-append after_act n one.acts (acts_of_parts parts) ∙ ap (λ (m : List TableName). fold after_act m (acts_of_parts parts)) (t.names n)
          ∙ rest.names (fold after_act n (all_acts (committed_by one))) ∙ sym (fold-append after_act n (all_acts (committed_by one)) (all_acts (committed_from one.next parts)))
          ∙ ap (fold after_act n) (sym (flat_map-append acts_of (committed_by one) (committed_from one.next parts)));
      unstopped = λ more. ap (λ (b : Bool). if b then Some (c, p) else first_stopped (next c p) (parts ++ more)) t.goes ∙ ap (λ (d : Connection). first_stopped d (parts ++ more)) t.next_is ∙ rest.unstopped more;
      answered = λ stop more h. inl (record { level = refl; answer = t.answer; acts = t.acts }, subst (λ (d : Connection). AreAnswered stop d (parts ++ more)) (sym t.next_is) (rest.answered stop more h));
      alone = λ more end h. (t.means, t.after, t.applies, t.number, subst (λ (g : Stage). IsAlone g (parts ++ more) end) (sym t.staged_is) (rest.alone more end h));
    }

is_part : (st : State) (p : Part) → IsTurn st p → part_by p.entry.from p.entry.to p.read (turn st p.read) ≡ p
is_part st p h = λ j. record { read = p.read; entry = record { from = p.entry.from; to = p.entry.to; level = sym h.level j; answer = sym h.answer j; acts = sym h.acts j } }

pub led : (o : Option Transaction) (k : Tables) (st last : State) (parts : List Part) → Lead st parts last → SameOpen o st.changes → Stands k st → Led o k st last parts
led o k st last [] same opening stands = led_none o k st last same opening stands
led o k st last (p ∷ parts) turns opening stands =
    let t = told o k st p.read p.entry.from p.entry.to opening stands in
    subst (λ (q : Part). Led o k st last (q ∷ parts)) (is_part st p turns.0)
    (led_more o k st last p.read p.entry.from p.entry.to parts t (led t.then_open t.committed_then (turn st p.read).next last parts turns.1 t.opening t.stands))

-- ---- the statements that the stop answers

abbrev stopped_parts : List ℕ → Option Reason → List Span → List Part
stopped_parts text stop spans = parts_of text (unanswered stop spans)

all_stopped : (text : List ℕ) (reason : Reason) (o : Option Transaction) (spans : List Span) → AllByRecursion (IsStopped (Some reason) (conn_at o)) (stopped_parts text (Some reason) spans)
all_stopped text reason o [] = tt
all_stopped text reason o (span ∷ spans) = (record { level = refl; reason = reason; stopped = refl; answer = refl; acts = refl }, all_stopped text reason o spans)

pub stopped_answered : (text : List ℕ) (stop : Option Reason) (o : Option Transaction) (spans : List Span) → AreAnswered stop (conn_at o) (stopped_parts text stop spans)
stopped_answered text None o spans = tt
stopped_answered text (Some reason) o [] = tt
stopped_answered text (Some reason) o (span ∷ spans) = inr (all_stopped text reason o (span ∷ spans))

no_reply : (r : Meant) (T : Type 0) → None ≡ Some r → T
no_reply r T h = cc

pub stopped_alone : (text : List ℕ) (stop : Option Reason) (spans : List Span) (g : Stage) → IsAlone g (stopped_parts text stop spans) g
stopped_alone text None spans g = refl
stopped_alone text (Some reason) [] g = refl
stopped_alone text (Some reason) (span ∷ spans) g = ((λ y r is has serial said. no_reply r _ said), g.now, refl, tt, stopped_alone text (Some reason) spans g)

pub stopped_commit_none : (text : List ℕ) (stop : Option Reason) (c : Connection) (spans : List Span) → commits_from c (stopped_parts text stop spans) ≡ []
stopped_commit_none text None c spans = refl
stopped_commit_none text (Some reason) c [] = refl
stopped_commit_none text (Some reason) c (span ∷ spans) =
    let p = part_of text (stopped_at reason span) in
    ap (λ (d : Connection). commits_from d (stopped_parts text (Some reason) spans)) (stopped_stays c p p.read reason refl) ∙ stopped_commit_none text (Some reason) c spans

pub commits-append : (c : Connection) (xs ys : List Part) → commits_from c (xs ++ ys) ≡ commits_from c xs ++ commits_from (fold next c xs) ys
commits-append c [] ys = refl
commits-append c (p ∷ xs) ys =
    ap (λ (l : List Commit). history.committed_by c p p.entry.answer ++ l) (commits-append (next c p) xs ys) ∙ sym (append_assoc (history.committed_by c p p.entry.answer) (commits_from (next c p) xs) (commits_from (fold next (next c p) xs) ys))
