-- What is driven over rows is recorded as a statement that runs alone.
use Rattle.std.proofs.Common.{◌≡◌, ℕ, List, [], ◌∷◌, ◌++◌, ◌⊎◌, inl, inr, Option, Some, None, Result, Ok, Err, refl, sym, ap, ap₂, ◌∙◌, subst, ⊎_elim}
use Rattle.wat_value.specs.declared.change.Change.{Change}
use Rattle.wat_value.specs.Changes.{RowName, row_after, row_before}
use Rattle.wat_ast.specs.declared.statement.Statement.{Statement}
use Rattle.wat_schema.specs.Catalog.{Catalog}
use Rattle.wat_schema.specs.Tables.{Row}
use Rattle.wat_schema.specs.declared.refusal.Refusal.{Refusal}
use Rattle.wat_expr.specs.Evaluation.{Combination}
use Rattle.wat_meaning.specs.declared.reply.Reply.{Reply}
use Rattle.wat_meaning.specs.Meaning.{Made, Made.Altering, Made.Changing, Made.Shown}
use Rattle.wat_isolation.specs.Logs.{Item, Item.Saw, Item.Did, Item.Looked, Item.Peeked, view}
use Rattle.wat_isolation.specs.Rows.{set_row}
use Rattle.wat_isolation.specs.Sql.{sql, IndexName}
use Rattle.wat_value.specs.declared.value.Value.{Value}
use Rattle.wat_scans.specs.declared.scan.Scan.{Scan}
use Rattle.wat_scans.specs.declared.scan.Seen.{Seen}
use Rattle.wat_scans.specs.declared.scan.Taken.{Taken}
use Rattle.wat_scans.specs.Recorded.{HasWidth, index_of_step}
use Rattle.wat_scans.specs.Running.{Run, Task, Next, Next.ToChange, Next.ToVisit, after_change, after_visit, begin, change_item, change_next, items_of, made_by, made_next, next, progress_next, row_changed, scanned_next, visit_item}
use Rattle.wat_scans.specs.Scans.{Progress}
use Rattle.wat_scans.specs.Sources.{IsSeen}
use Rattle.wat_scans.specs.Still.{Granted, Granted.Changed, Granted.Visited, LeadsTo}
use Rattle.wat_scans.specs.Told.{AreVisits}
use Rattle.wat_driven.specs.Driven.{Drives}
use Rattle.wat_exec.proofs.KeptLemmas.{to_visit}

view_of_visits : (f : RowName → Option Row) (items : List (Item sql)) → AreVisits items → view sql f items ≡ f
view_of_visits f [] h = refl
view_of_visits f (Saw s ∷ items) h = view_of_visits f items h
view_of_visits f (Did r b a ∷ items) h = absurd h
view_of_visits f (Looked r v ∷ items) h = absurd h
view_of_visits f (Peeked r v ∷ items) h = absurd h

items_more : (c : Catalog) (made : List Change) (ch : Change) (base : List (Item sql)) → items_of c (made ++ ch ∷ []) base ≡ change_item c ch ∷ items_of c made base
items_more c [] ch base = refl
items_more c (x ∷ made) ch base = items_more c made ch (change_item c x ∷ base)

-- no change is made before the last visit
abbrev MadeLast : List Change → Option Progress → Type 0
MadeLast made progress = (made ≡ []) ⊎ ((at : Progress) × (progress ≡ Some at) × (at.scan ≡ None))

abbrev scan_of : Option Progress → Option Scan
scan_of None = None
scan_of (Some w) = w.scan

none_yet : (made : List Change) (progress : Option Progress) (scan : Scan) (ts : List Taken) (met : List Combination) → MadeLast made progress → progress ≡ Some (record { scan = Some scan; taken = ts; met = met }) → made ≡ []
none_yet made progress scan ts met k at = ⊎_elim
    (λ (e : made ≡ []). e)
    (λ (m : (w : Progress) × (progress ≡ Some w) × (w.scan ≡ None)). absurd (let no : ◌≡◌ {A = Option Scan} None (Some scan) = sym m.2 ∙ (ap scan_of (sym m.1) ∙ ap scan_of at) in cc))
    k

-- where a change is next, all visits are made
change_last : (task : Task) (made : List Change) (progress : Option Progress) (change : Change) → progress_next task made progress ≡ ToChange change → (at : Progress) × (progress ≡ Some at) × (at.scan ≡ None)
change_last task made None change e = cc
change_last task made (Some w) change e = by w.scan refl e
  where
    by : (o : Option Scan) → w.scan ≡ o → scanned_next task made w o ≡ ToChange change → (at : Progress) × (◌≡◌ {A = Option Progress} (Some w) (Some at)) × (at.scan ≡ None)
    by None is k = (w, refl, is)
    by (Some s) is k = cc

begin_made : (c : Catalog) (level : ℕ) (s : Statement) → (begin c level s).made ≡ []
unfolding begin
begin_made c level s = refl

-- what is recorded of what was driven, and the rows that it leads to
pub record IsRecorded (c : Catalog) (f : RowName → Option Row) (level : ℕ) (s : Statement) (steps : List Granted) (run : Run) (rows : RowName → Option Row) : Type 0 where
  pub visits : List (Item sql)
  pub leads : LeadsTo c f level s steps run visits
  pub alone : AreVisits visits
  pub last : MadeLast run.made run.progress
  pub seen : rows ≡ view sql f (items_of c run.made visits)

pub recorded : (c : Catalog) (f : RowName → Option Row) (level : ℕ) (s : Statement) (steps : List Granted) (run : Run) (rows : RowName → Option Row) → Drives c f level s steps run rows → IsRecorded c f level s steps run rows
unfolding next
recorded c f level s [] run rows h =
    let none : run.made ≡ [] = ap (λ (r : Run). r.made) h.0 ∙ begin_made c level s in
    record { visits = []; leads = (h.0, refl); alone = tt; last = inl none; seen = h.1 ∙ sym (ap (λ (made : List Change). view sql f (items_of c made [])) none) }
recorded c f level s (Visited scan ts met seen vacant ∷ more) run rows h =
    let before = h.0 in
    let k = recorded c f level s more before rows h.1 in
    let at : before.progress ≡ Some (record { scan = Some scan; taken = ts; met = met }) = to_visit before.task before.made before.progress scan ts met h.2 in
    let none : before.made ≡ [] = none_yet before.made before.progress scan ts met k.last at in
    let still : rows ≡ f = k.seen ∙ (ap (λ (made : List Change). view sql f (items_of c made k.visits)) none ∙ view_of_visits f k.visits k.alone) in
    let none_after : run.made ≡ [] = ap (λ (r : Run). r.made) h.5 ∙ none in
    let items : List (Item sql) = visit_item before scan seen ∷ k.visits in
    let after : view sql f items ≡ f = view_of_visits f items k.alone in
    record {
      visits = items;
      leads = (before, k.visits, k.leads, at, subst (λ (g : RowName → Option Row). IsSeen c g vacant (index_of_step before.task.plan scan.step) scan seen) still h.3, h.4, h.5, refl);
      alone = k.alone;
      last = inl none_after;
      seen = still ∙ (sym after ∙ sym (ap (λ (made : List Change). view sql f (items_of c made items)) none_after));
    }
recorded c f level s (Changed change ∷ more) run rows h =
    let before = h.0 in
    let earlier = h.1 in
    let k = recorded c f level s more before earlier h.2 in
    let done = change_last before.task before.made before.progress change h.3 in
    let name = row_changed c change in
    record {
      visits = k.visits;
      leads = (before, k.leads, h.3, λ none. sym (ap (λ (g : RowName → Option Row). g name) k.seen) ∙ h.4 none, h.5);
      alone = k.alone;
      last = inr (done.0, ap (λ (r : Run). r.progress) h.5 ∙ done.1, done.2);
      seen = h.6 ∙ (ap (λ (g : RowName → Option Row). set_row sql g name (row_after change)) k.seen
          ∙ sym (ap (λ (r : Run). view sql f (items_of c r.made k.visits)) h.5 ∙ ap (view sql f) (items_more c before.made change k.visits)));
    }
