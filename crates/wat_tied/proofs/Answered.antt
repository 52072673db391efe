-- A statement's answer in the core, and what its entry means.
use Rattle.std.proofs.Common.{◌≡◌, ℕ, nat_le, Bool, true, false, ◌||◌, List, ◌∷◌, Option, Some, None, Ok, refl, sym, ap, ◌∙◌, subst}
use Rattle.wat_value.specs.declared.change.Act.{Act}
use Rattle.wat_value.specs.Changes.{RowName}
use Rattle.wat_ast.specs.declared.statement.Statement.{Statement}
use Rattle.wat_ast.specs.declared.statement.Statement.TheVariants as s
use Rattle.wat_schema.specs.declared.refusal.Refusal.{Refusal}
use Rattle.wat_schema.specs.Catalog.{Catalog}
use Rattle.wat_schema.specs.Tables.{Row, Tables, catalog_of}
use Rattle.wat_names.specs.Places.{placed_statement}
use Rattle.wat_names.specs.Refusals.{first, or_refused}
use Rattle.wat_parse.specs.declared.script.Span.{Span}
use Rattle.wat_parse.specs.Parsing.{parsed_at}
use Rattle.wat_rules.specs.Check.{check, refusals}
use Rattle.wat_rules.specs.Changes.{changes_schema}
use Rattle.wat_meaning.specs.declared.reply.Reply.{Reply as Meant}
use Rattle.wat_meaning.specs.Meaning.{meaning, meaning_checked, after_check}
use Rattle.wat_isolation.specs.Logs.{Item, Alone}
use Rattle.wat_isolation.specs.Machine as law
use Rattle.wat_isolation.specs.Naming.{scheme_of}
use Rattle.wat_isolation.specs.Sql.{sql}
use Rattle.wat_conn.specs.declared.answer.Answer.{Answer}
use Rattle.wat_history.specs.Connection.{Part, opens}
use Rattle.wat_history.specs.Serial.{says, Means}
use Rattle.wat_scans.specs.Look.{IsOf}
use Rattle.wat_scans.specs.Running.{Run}
use Rattle.wat_scans.specs.Told.{IsStepped}
use Rattle.wat_steps.specs.State.{ConnectionState, CoreState}
use Rattle.wat_steps.specs.Answering.{entry_at, with_answer, answered}
use Rattle.wat_tied.specs.Tied.{IsGoing, Relates}
use Rattle.wat_tied.proofs.Begun.{here}
use Rattle.wat_tied.proofs.Granted.{there}
pub use Rattle.wat_tied.proofs.Quiet.{done}
use Rattle.wat_tied.proofs.Quiet.{long_held}

pub done_here : (c : ℕ) (e : CoreState) (k : ConnectionState) (span : Span) (more : List Span) (answer : Answer) (acts : List Act) → e.connections c ≡ k → k.left ≡ span ∷ more → (answered c e answer acts).connections c ≡ done span more k answer acts
done_here c e k span more answer acts is first =
    here e c (record (with_answer (e.connections c).left (e.connections c) answer acts) { work = None; request = None })
    ∙ (ap (λ (z : ConnectionState). record (with_answer z.left z answer acts) { work = None; request = None }) is ∙ ap (λ (z : List Span). record (with_answer z k answer acts) { work = None; request = None }) first)

pub done_there : (c d : ℕ) (e : CoreState) (answer : Answer) (acts : List Act) → (d ≡ c → ⊥) → (answered c e answer acts).connections d ≡ e.connections d
done_there c d e answer acts ne = there e c (record (with_answer (e.connections c).left (e.connections c) answer acts) { work = None; request = None }) d ne

-- the rows are the same after an answer, and the long locks stay
pub answered_relates : (c : ℕ) (e : CoreState) (t : law.State sql) (answer : Answer) (acts : List Act) → Relates e t → Relates (answered c e answer acts) t
answered_relates c e t answer acts k = record { scheme = k.scheme; now = k.now; base = k.base; locks = long_held t c e.held k.locks; vacant = k.vacant }

-- ---- what an entry means

abbrev pub part_of : ConnectionState → Span → Answer → List Act → Part
part_of k span answer acts = record { read = parsed_at k.script span; entry = entry_at span k.level answer acts }

stepped_kind : (c : Catalog) (x statement : Statement) (refusal : Option Refusal) → or_refused x refusal ≡ Ok statement → IsStepped statement → IsStepped x
stepped_kind c x statement None is stepped = let same : x ≡ statement = cc in subst IsStepped (sym same) stepped
stepped_kind c x statement (Some refusal) is stepped = absurd (cc)

-- a statement that is made in steps changes no schema, nor does it as it was written
pub no_schema : (c : Catalog) (written statement : Statement) → check c written ≡ Ok statement → IsStepped statement → changes_schema written ≡ false
unfolding check
no_schema c written statement checked stepped = by written (stepped_kind c (placed_statement c written) statement (first (refusals c written)) checked stepped)
  where
    by : (x : Statement) → IsStepped (placed_statement c x) → changes_schema x ≡ false
    by (s.CreateTable a b) h = absurd h
    by (s.CreateIndex a b d) h = absurd h
    by (s.DropTable a) h = absurd h
    by (s.Insert a b d) h = refl
    by (s.Update a b d) h = refl
    by (s.Delete a b) h = refl
    by (s.Select a) h = refl
    by s.Commit h = absurd h
    by s.Rollback h = absurd h
    by s.Checkpoint h = absurd h
    by (s.Savepoint a) h = absurd h
    by (s.RollbackTo a) h = absurd h
    by (s.Release a) h = absurd h
    by (s.SetLevel a) h = absurd h
    by (s.SetBlocking a) h = absurd h

-- and opens a transaction where none is open
pub opens_written : (c : Catalog) (written statement : Statement) → check c written ≡ Ok statement → IsStepped statement → opens written ≡ true
unfolding check
opens_written c written statement checked stepped = by written (stepped_kind c (placed_statement c written) statement (first (refusals c written)) checked stepped)
  where
    by : (x : Statement) → IsStepped (placed_statement c x) → opens x ≡ true
    by (s.CreateTable a b) h = absurd h
    by (s.CreateIndex a b d) h = absurd h
    by (s.DropTable a) h = absurd h
    by (s.Insert a b d) h = refl
    by (s.Update a b d) h = refl
    by (s.Delete a b) h = refl
    by (s.Select a) h = refl
    by s.Commit h = absurd h
    by s.Rollback h = absurd h
    by s.Checkpoint h = absurd h
    by (s.Savepoint a) h = absurd h
    by (s.RollbackTo a) h = absurd h
    by (s.Release a) h = absurd h
    by (s.SetLevel a) h = absurd h
    by (s.SetBlocking a) h = absurd h

pub checked_means : (t : Tables) (c : Catalog) (written statement : Statement) → catalog_of t ≡ c → check c written ≡ Ok statement → meaning t written ≡ meaning_checked t statement
unfolding meaning
checked_means t c written statement schema checked = ap (after_check t) (ap (λ z. check z written) schema ∙ checked)

or_false : (b : Bool) → (b || false) ≡ true → b ≡ true
or_false true h = refl
or_false false h = h

-- what an answer to a statement under way means, from the meaning of the checked statement
pub meant : (c : Catalog) (k : ConnectionState) (run : Run) (work items : List (Item sql)) (was : IsGoing c k run work) (answer : Answer) (acts : List Act)
    → ((f : RowName → Option Row) (t : Tables) (r : Meant) → nat_le 3 run.level ≡ true → says answer ≡ Some r → IsOf c f t → Alone sql (scheme_of c) f items → meaning_checked t was.statement ≡ record { answer = r; acts = acts })
    → (f : RowName → Option Row) (t : Tables) → IsOf c f t → Alone sql (scheme_of c) f items → Means 3 t (part_of k was.span answer acts)
meant c k run work items was answer acts told f t is alone = λ x r read has serial said.
    let both : Ok was.written ≡ Ok x = sym was.read ∙ read in
    let same : was.written ≡ x = cc in
    let plain : changes_schema x ≡ false = ap changes_schema (sym same) ∙ no_schema c was.written was.statement was.checked was.stepped in
    let three : nat_le 3 k.level ≡ true = or_false (nat_le 3 k.level) (ap (λ b. nat_le 3 k.level || b) (sym plain) ∙ serial) in
    ap (meaning t) (sym same)
    ∙ (checked_means t c was.written was.statement is.schema was.checked
    ∙ told f t r (ap (nat_le 3) was.level ∙ three) said is alone)
