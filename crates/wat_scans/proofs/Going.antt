-- A statement stays under way through its first step, its visits and its changes; and what is next, when all visits are made.
use Rattle.std.proofs.Common.{◌≡◌, ℕ, List, [], ◌∷◌, ◌++◌, length, drop, ◌⊎◌, Option, Some, None, Result, Ok, Err, refl, sym, ap, ◌∙◌, subst, inl, inr, ⊎_elim}
use Rattle.wat_value.specs.declared.change.Change.{Change}
use Rattle.wat_value.specs.Changes.{RowName}
use Rattle.wat_ast.specs.declared.statement.Statement.{Statement}
use Rattle.wat_schema.specs.declared.refusal.Refusal.{Refusal}
use Rattle.wat_schema.specs.declared.refusal.Refusal.TheVariants.{Arithmetic}
use Rattle.wat_schema.specs.Catalog.{Catalog}
use Rattle.wat_schema.specs.Tables.{Row}
use Rattle.wat_expr.specs.Evaluation.{Combination}
use Rattle.wat_meaning.specs.declared.reply.Reply.{Reply}
use Rattle.wat_meaning.specs.Meaning.{Made, Made.Shown, Made.Changing, Made.Altering}
use Rattle.wat_isolation.specs.Logs.{Item, Item.Saw, Item.Did, Item.Looked, Item.Peeked, IsPlainScan, view}
use Rattle.wat_isolation.specs.Naming.{scheme_of}
use Rattle.wat_isolation.specs.Sql.{sql}
use Rattle.wat_plan.specs.Scanned.{ScansEach}
use Rattle.wat_scans.specs.declared.scan.Scan.{Scan}
use Rattle.wat_scans.specs.declared.scan.Seen.{Seen}
use Rattle.wat_scans.specs.declared.scan.Taken.{Taken}
use Rattle.wat_scans.specs.Recorded.{HasWidth, IsAt, IsSoFar, IsSoFarOrFails, part_of}
use Rattle.wat_scans.specs.Running.{Task, task_of, Run, begin, made_by, Next, Next.ToVisit, Next.ToChange, Next.ToRefuse, Next.ToReply, change_next, made_next, scanned_next, progress_next, next, after_visit, after_change, visit_item}
use Rattle.wat_scans.specs.Scans.{Progress}
use Rattle.wat_scans.specs.Told.{AreVisits, Ended, HasChanged, MadeSoFar, IsUnderWay}
use Rattle.wat_scans.proofs.Nest.{begun_right, visit_right}

-- visits change nothing
pub view_of_visits : (f : RowName → Option Row) (items : List (Item sql)) → AreVisits items → view sql f items ≡ f
view_of_visits f [] h = refl
view_of_visits f (Saw s ∷ items) h = view_of_visits f items h
view_of_visits f (Did r b a ∷ items) h = absurd h
view_of_visits f (Looked r v ∷ items) h = absurd h
view_of_visits f (Peeked r v ∷ items) h = absurd h

-- ---- the first step, and visits

pub begin_goes : (c : Catalog) (level : ℕ) (s : Statement) → ScansEach c (task_of c s).plan → IsUnderWay c s (begin c level s) []
unfolding begin
begin_goes c level s ok = record {
  task = refl;
  visits_alone = tt;
  explained = λ f fit alone. begun_right c (task_of c s).plan ok f fit;
  made = inl refl;
}

abbrev scan_of : Option Progress → Option Scan
scan_of None = None
scan_of (Some w) = w.scan

abbrev met_of : Option Progress → List Combination
met_of None = []
met_of (Some w) = w.met

-- nothing is changed before the last visit
pub none_before_visit : (c : Catalog) (s : Statement) (run : Run) (visits : List (Item sql)) → IsUnderWay c s run visits → (scan : Scan) (ts : List Taken) (met : List Combination) → run.progress ≡ Some (record { scan = Some scan; taken = ts; met = met }) → run.made ≡ []
none_before_visit c s run visits k scan ts met at = ⊎_elim
    (λ (e : run.made ≡ []). e)
    (λ (m : HasChanged run). absurd (let no : ◌≡◌ {A = Option Scan} None (Some scan) = sym m.none ∙ (ap scan_of (sym m.progress) ∙ ap scan_of at) in cc))
    k.made

pub visit_goes : (c : Catalog) (s : Statement) (run : Run) (visits : List (Item sql)) → ScansEach c (task_of c s).plan → IsUnderWay c s run visits
    → (scan : Scan) (ts : List Taken) (met : List Combination) (seen : Seen) → run.progress ≡ Some (record { scan = Some scan; taken = ts; met = met }) → HasWidth run.task.plan scan.step seen.place
    → IsUnderWay c s (after_visit run scan ts met seen) (visit_item run scan seen ∷ visits)
visit_goes c s run visits ok k scan ts met seen at long = record {
  task = k.task;
  visits_alone = k.visits_alone;
  explained = λ f fit alone.
      let so : IsSoFar f run.task.plan (record { scan = Some scan; taken = ts; met = met }) = subst (IsSoFarOrFails f run.task.plan) at (k.explained f fit alone.0) in
      visit_right c run.task.plan (subst (λ (z : Task). ScansEach c z.plan) (sym k.task) ok) f fit scan ts met seen long so
      (subst (λ g. IsPlainScan sql (scheme_of c) g (part_of run.task.plan scan seen)) (view_of_visits f visits k.visits_alone) alone.1);
  made = inl (none_before_visit c s run visits k scan ts met at);
}

-- ---- what is next

-- all visits are made, and this is next
pub record IsDone (run : Run) (n : Next) : Type 0 where
  pub at : Progress
  pub progress : run.progress ≡ Some at
  pub none : at.scan ≡ None
  pub is : made_next run.made (made_by run.task at.met run.task.statement) ≡ n

module _ (run : Run) (n : Next) (no_visit : (s : Scan) (ts : List Taken) (met : List Combination) → ToVisit s ts met ≡ n → ⊥) where
  done_at : (w : Progress) → run.progress ≡ Some w → (scan : Option Scan) → w.scan ≡ scan → scanned_next run.task run.made w scan ≡ n → IsDone run n
  done_at w e (Some s) k h = absurd (no_visit s w.taken w.met h)
  done_at w e None k h = record { at = w; progress = e; none = k; is = h }

  -- one combination failed, or all visits are made
  pub failed_or_done : next run ≡ n → ((run.progress ≡ None) × (ToRefuse Arithmetic ≡ n)) ⊎ IsDone run n
  unfolding next
  failed_or_done h = by run.progress refl h
    where
      by : (o : Option Progress) → run.progress ≡ o → progress_next run.task run.made o ≡ n → ((run.progress ≡ None) × (ToRefuse Arithmetic ≡ n)) ⊎ IsDone run n
      by None e k = inl (e, k)
      by (Some w) e k = inr (done_at w e w.scan refl k)

pub done_reply : (run : Run) (r : Reply) → next run ≡ ToReply r → IsDone run (ToReply r)
done_reply run r h = ⊎_elim
    (λ (e : (run.progress ≡ None) × (ToRefuse Arithmetic ≡ ToReply r)). let no : ToRefuse Arithmetic ≡ ToReply r = e.1 in absurd (cc))
    (λ (d : IsDone run (ToReply r)). d)
    (failed_or_done run (ToReply r) (λ s ts met e. absurd (cc)) h)

pub done_change : (run : Run) (ch : Change) → next run ≡ ToChange ch → IsDone run (ToChange ch)
done_change run ch h = ⊎_elim
    (λ (e : (run.progress ≡ None) × (ToRefuse Arithmetic ≡ ToChange ch)). let no : ToRefuse Arithmetic ≡ ToChange ch = e.1 in absurd (cc))
    (λ (d : IsDone run (ToChange ch)). d)
    (failed_or_done run (ToChange ch) (λ s ts met e. absurd (cc)) h)

pub failed_refuse : (run : Run) (x : Refusal) → next run ≡ ToRefuse x → ((run.progress ≡ None) × (x ≡ Arithmetic)) ⊎ IsDone run (ToRefuse x)
failed_refuse run x h = ⊎_elim
    (λ (e : (run.progress ≡ None) × (ToRefuse Arithmetic ≡ ToRefuse x)). let same : ToRefuse Arithmetic ≡ ToRefuse x = e.1 in inl (e.0, (cc)))
    (λ (d : IsDone run (ToRefuse x)). inr d)
    (failed_or_done run (ToRefuse x) (λ s ts met e. absurd (cc)) h)

-- the scans are done as these tables give it
pub ended_at : (f : RowName → Option Row) (run : Run) (n : Next) → IsSoFarOrFails f run.task.plan run.progress → (d : IsDone run n) → Ended f run.task.plan (Some d.at.met)
ended_at f run n so d =
    let k : IsSoFar f run.task.plan d.at = subst (IsSoFarOrFails f run.task.plan) d.progress so in
    let none : d.at.taken ≡ [] = subst (λ z. IsAt run.task.plan z d.at.taken) d.none k.at in
    subst (IsSoFar f run.task.plan) (λ i. record { scan = d.none i; taken = none i; met = d.at.met }) k

-- ---- the changes that are to be made

pub record AreChanges (run : Run) (met : List Combination) : Type 0 where
  pub reply : Reply
  pub changes : List Change
  pub are : made_by run.task met run.task.statement ≡ Ok (Changing reply changes)
  pub rest : List Change
  pub split : changes ≡ run.made ++ rest

-- the changes made are the first of them
pub front_is : (run : Run) (n : Next) → MadeSoFar run → (d : IsDone run n) → (reply : Reply) (changes : List Change) → made_by run.task d.at.met run.task.statement ≡ Ok (Changing reply changes)
    → (rest : List Change) × (changes ≡ run.made ++ rest)
front_is run n made d reply changes are = ⊎_elim
    (λ (e : run.made ≡ []). (changes, ap (λ z. z ++ changes) (sym e)))
    (λ (m : HasChanged run).
    let met : m.at.met ≡ d.at.met = ap met_of (sym m.progress ∙ d.progress) in
    let both : Ok (Changing reply changes) ≡ Ok (Changing m.reply (run.made ++ m.left)) = sym are ∙ (ap (λ z. made_by run.task z run.task.statement) (sym met) ∙ m.front) in
    (m.left, (cc)))
    made

-- where rows are shown nothing was changed
pub none_made : (run : Run) (n : Next) → MadeSoFar run → (d : IsDone run n) → (rows : List Row) → made_by run.task d.at.met run.task.statement ≡ Ok (Shown rows) → run.made ≡ []
none_made run n made d rows are = ⊎_elim
    (λ (e : run.made ≡ []). e)
    (λ (m : HasChanged run).
    let met : m.at.met ≡ d.at.met = ap met_of (sym m.progress ∙ d.progress) in
    let no : Ok (Shown rows) ≡ Ok (Changing m.reply (run.made ++ m.left)) = sym are ∙ (ap (λ z. made_by run.task z run.task.statement) (sym met) ∙ m.front) in
    absurd (cc))
    made

pub dropped : {A : Type 0} (xs ys : List A) → drop (length xs) (xs ++ ys) ≡ ys
dropped [] ys = refl
dropped (z ∷ xs) ys = dropped xs ys

grouped : {A : Type 0} (x : A) (xs ys : List A) → xs ++ x ∷ ys ≡ (xs ++ x ∷ []) ++ ys
grouped x [] ys = refl
grouped x (z ∷ xs) ys = ap (λ w. z ∷ w) (grouped x xs ys)

-- the changes behind those that are made, the next one first
pub record NextChange (run : Run) (ch : Change) : Type 0 where
  pub at : Progress
  pub progress : run.progress ≡ Some at
  pub none : at.scan ≡ None
  pub reply : Reply
  pub left : List Change
  pub are : made_by run.task at.met run.task.statement ≡ Ok (Changing reply (run.made ++ ch ∷ left))

pub next_change : (run : Run) (ch : Change) → MadeSoFar run → next run ≡ ToChange ch → NextChange run ch
next_change run ch made h = by (made_by run.task d.at.met run.task.statement) refl d.is
  where
    d : IsDone run (ToChange ch)
    d = done_change run ch h

    of_list : (reply : Reply) (rest left : List Change) → rest ≡ left → change_next reply left ≡ ToChange ch → (more : List Change) × (rest ≡ ch ∷ more)
    of_list reply rest [] e k = absurd (cc)
    of_list reply rest (x ∷ left) e k = let same : x ≡ ch = cc in (left, e ∙ ap (λ z. z ∷ left) same)

    by : (o : Result Made Refusal) → made_by run.task d.at.met run.task.statement ≡ o → made_next run.made o ≡ ToChange ch → NextChange run ch
    by (Err x) e k = absurd (cc)
    by (Ok (Shown rows)) e k = absurd (cc)
    by (Ok (Altering reply alteration)) e k = absurd (cc)
    by (Ok (Changing reply changes)) e k =
        let p = front_is run (ToChange ch) made d reply changes e in
        let r = of_list reply p.0 (drop (length run.made) changes) (sym (dropped run.made p.0) ∙ ap (drop (length run.made)) (sym p.1)) k in
        record {
          at = d.at;
          progress = d.progress;
          none = d.none;
          reply = reply;
          left = r.0;
          are = e ∙ ap (λ z. Ok (Changing reply z)) (p.1 ∙ ap (λ z. run.made ++ z) r.1);
        }

pub change_goes : (c : Catalog) (s : Statement) (run : Run) (visits : List (Item sql)) → IsUnderWay c s run visits → (ch : Change) → next run ≡ ToChange ch → IsUnderWay c s (after_change run ch) visits
change_goes c s run visits k ch h =
    let n = next_change run ch k.made h in
    record {
      task = k.task;
      visits_alone = k.visits_alone;
      explained = k.explained;
      made = inr (record {
        at = n.at;
        left = n.left;
        reply = n.reply;
        progress = n.progress;
        none = n.none;
        front = n.are ∙ ap (λ z. Ok (Changing n.reply z)) (grouped ch run.made n.left);
      });
    }
