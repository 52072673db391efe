-- No step changes the tables with which the session began.
use Rattle.std.proofs.Common.{◌≡◌, ℕ, Bool, true, false, List, [], ◌∷◌, length, Option, Some, None, Result, Ok, Err, refl, sym, ap, ◌∙◌, inl, inr}
use Rattle.std.specs.List.{fold}
use Rattle.wat_value.specs.declared.change.Change.{Change}
use Rattle.wat_ast.specs.declared.statement.Statement.{Statement}
use Rattle.wat_ast.specs.declared.statement.Statement.TheVariants as s
use Rattle.wat_schema.specs.declared.refusal.Refusal.{Refusal}
use Rattle.wat_schema.specs.Catalog.{Name, Listing}
use Rattle.wat_schema.specs.Tables.{Row, inverse}
use Rattle.wat_parse.specs.declared.script.Span.{Span}
use Rattle.wat_parse.specs.Parsing.{parsed_at}
use Rattle.wat_rules.specs.Check.{check}
use Rattle.wat_locks.specs.declared.want.Want.{Want}
use Rattle.wat_locks.specs.declared.held.Against.{Against}
use Rattle.wat_conn.specs.declared.answer.Reason.{Reason}
use Rattle.wat_scans.specs.Running.{Run, Next, Next.ToVisit, Next.ToChange, Next.ToRefuse, Next.ToReply, next, after_visit}
use Rattle.wat_scans.specs.Scans.{Progress}
use Rattle.wat_steps.specs.State.{OpenTransaction, CoreState, Progressed, Progressed.Moved, Progressed.Answered, schema_of}
use Rattle.wat_steps.specs.Answering.{IsSame, opened, rolled_back_from, transaction_of}
use Rattle.wat_steps.specs.Asking.{Asks, IsBlocked, with_locks}
use Rattle.wat_steps.specs.Changing.{made, undone}
use Rattle.wat_steps.specs.Making.{standing_row, IsChangeAt, changed, duplicate}
use Rattle.wat_steps.specs.Statements.{back_to, released, saves_from, committed, IsSchemaStep, begun, Begins, Alters}
use Rattle.wat_steps.specs.Step.{GoesOn, Starts, IsRead, Stays, Goes, GoesOrStops, IsStep}
use Rattle.wat_steps.specs.Visiting.{seen_by, wants_of, visited, without_visit}
use Rattle.wat_level.specs.Change.{change_wants}
use Rattle.std.specs.Prelude.{drop, map, reverse}

same_base : (a b : CoreState) → IsSame a b → b.base ≡ a.base
same_base a b same = sym (ap (λ (z : CoreState). z.base) same.others)

fold_base : (c : ℕ) (changes : List Change) (e : CoreState) → (fold (made c) e changes).base ≡ e.base
fold_base c [] e = refl
fold_base c (ch ∷ changes) e = fold_base c changes (made c e ch)

undone_base : (c : ℕ) (changes : List Change) (e : CoreState) → (undone c changes e).base ≡ e.base
undone_base c changes e = fold_base c (map inverse (reverse changes)) e

rolled_base : (c : ℕ) (t : Option OpenTransaction) (e : CoreState) → (rolled_back_from c t e).base ≡ e.base
rolled_base c None e = refl
rolled_base c (Some t) e = undone_base c t.standing e

module _ (e after : CoreState) (c : ℕ) (a : Progressed) where
  abbrev IsBase : Type 0
  IsBase = after.base ≡ e.base

  -- ---- a statement under way

  blocked : (run : Run) (wants : List Want) (against : Against) (blocking : Bool) → IsBlocked c e run wants against blocking a after → IsBase
  blocked run wants against false h = same_base _ after h.1 ∙ undone_base c run.made e
  blocked run wants against true (inl h) = same_base _ after h.3 ∙ (rolled_base c ((undone c run.made e).connections c).transaction (undone c run.made e) ∙ undone_base c run.made e)
  blocked run wants against true (inr h) = same_base _ after h.2

  asked : (run : Run) (wants : List Want) (Makes : Progressed → CoreState → Type 0) → (Makes a after → IsBase) → Asks c e run wants Makes a after → IsBase
  asked run wants Makes goes (inl p) = goes p.1
  asked run wants Makes goes (inr q) = blocked run wants q.0 (e.connections c).blocking q.2

  seen_base : (later : Run) (mid : CoreState) → mid.base ≡ e.base → (o : Option Progress) → (seen_by c mid later o).1.base ≡ e.base
  seen_base later mid is None = undone_base c later.made mid ∙ is
  seen_base later mid is (Some w) = is

  changed_at : (run : Run) (ch : Change) (l : Listing) (o : Option Row) → IsChangeAt c e run ch l o a after → IsBase
  changed_at run ch l None h =
      asked run (change_wants l.def ch h.0) (λ b later. (b ≡ Moved) × IsSame (changed c e run l ch h.0) later) (λ p. same_base (changed c e run l ch h.0) after p.1) h.2
  changed_at run ch l (Some row) h =
      asked run (change_wants l.def ch []) (λ b later. (b ≡ Answered) × IsSame (duplicate c e run l ch) later)
      (λ p. same_base (duplicate c e run l ch) after p.1 ∙ undone_base c run.made (with_locks c (change_wants l.def ch []) e)) h

  goes_on : (run : Run) (n : Next) → GoesOn c e run n a after → IsBase
  goes_on run (ToVisit scan taken met) h =
      asked run (wants_of run scan taken h.0) (λ b later. let r = visited c e run scan taken met h.0 in (b ≡ r.0) × IsSame r.1 later)
      (λ p. same_base (visited c e run scan taken met h.0).1 after p.1
      ∙ seen_base (after_visit run scan taken met h.0) (with_locks c (wants_of run scan taken h.0) (without_visit c (length taken) e)) refl (after_visit run scan taken met h.0).progress)
      h.2
  goes_on run (ToChange ch) h = changed_at run ch h.0 (standing_row e h.0 ch) h.2
  goes_on run (ToRefuse x) h = same_base _ after h.1 ∙ undone_base c run.made e
  goes_on run (ToReply r) h = same_base _ after h.1

  -- ---- the next statement

  commits : (moment : ℕ) (t : Option OpenTransaction) → IsSame (committed c moment t e) after → IsBase
  commits moment None same = same_base _ after same
  commits moment (Some t) same = same_base _ after same

  goes_back : (name : Name) (saves : List (Name × ℕ)) → IsSame (back_to c name saves e) after → IsBase
  goes_back name [] same = same_base _ after same
  goes_back name (save ∷ earlier) same = same_base _ after same ∙ undone_base c (drop save.1 (transaction_of c e).standing) e

  releases : (name : Name) (saves : List (Name × ℕ)) → IsSame (released c name saves e) after → IsBase
  releases name [] same = same_base _ after same
  releases name (save ∷ earlier) same = same_base _ after same

  schema_step : (x : Statement) → IsSchemaStep c e x after → IsBase
  schema_step x (inl h) = same_base _ after h.2
  schema_step x (inr h) = by h.1
    where
      by : Alters c e x after → IsBase
      by (inl k) = same_base _ after k.1
      by (inr k) = same_base _ after k.4

  begins : (x : Statement) → Begins c e x a after → IsBase
  begins x h = by (check (schema_of e) x) h.1
    where
      by : (r : Result Statement Refusal) → IsSame (begun c (opened c e) r).1 after → IsBase
      by (Err refusal) same = same_base _ after same
      by (Ok y) same = same_base _ after same

  starts : (x : Statement) → Starts c e x a after → IsBase
  starts (s.SetLevel level) h = same_base _ after h.1
  starts (s.SetBlocking on) h = same_base _ after h.1
  starts s.Checkpoint h = same_base _ after h.1
  starts s.Commit h = commits h.1 (e.connections c).transaction h.2
  starts s.Rollback h = same_base _ after h.1 ∙ rolled_base c (e.connections c).transaction e
  starts (s.Savepoint name) h = same_base _ after h.1
  starts (s.RollbackTo name) h = goes_back name (saves_from c name e) h.1
  starts (s.Release name) h = releases name (saves_from c name e) h.1
  starts (s.CreateTable name elements) h = schema_step (s.CreateTable name elements) h.1
  starts (s.CreateIndex name table columns) h = schema_step (s.CreateIndex name table columns) h.1
  starts (s.DropTable name) h = schema_step (s.DropTable name) h.1
  starts (s.Insert table columns source) h = begins (s.Insert table columns source) h
  starts (s.Update table sets filter) h = begins (s.Update table sets filter) h
  starts (s.Delete table filter) h = begins (s.Delete table filter) h
  starts (s.Select query) h = begins (s.Select query) h

  reads : (r : Result Statement ℕ) → IsRead c e r a after → IsBase
  reads (Err at) h = same_base _ after h.1
  reads (Ok x) h = starts x h

  goes : (work : Option Run) (left : List Span) → Goes c e work left a after → IsBase
  goes (Some run) left h = goes_on run (next run) h
  goes None [] h = same_base _ after h.1 ∙ rolled_base c (e.connections c).transaction e
  goes None (span ∷ more) h = reads (parsed_at (e.connections c).script span) h

  stays : (reason : Reason) (left : List Span) → Stays c e reason left a after → IsBase
  stays reason [] h = same_base _ after h.1
  stays reason (span ∷ more) h = same_base _ after h.1

  stops : (reason : Reason) (left : List Span) → Stays c (record e { stop = Some reason }) reason left a after → IsBase
  stops reason [] h = same_base _ after h.1
  stops reason (span ∷ more) h = same_base _ after h.1

  pub step_base : IsStep e c a after → IsBase
  unfolding IsStep
  step_base step = by e.stop step
    where
      by : (stop : Option Reason) → GoesOrStops c e stop a after → IsBase
      by (Some reason) h = stays reason (e.connections c).left h
      by None (inl h) = goes (e.connections c).work (e.connections c).left h
      by None (inr h) = stops h.0 (e.connections c).left h.1
