-- What refuses a statement under way leaves the core tied: the reply of its meaning, an error of WHERE, a row that stands already, a lock that another holds.
use Rattle.std.proofs.Common.{◌≡◌, ℕ, ◌==◌, nat_le, Bool, true, false, not, ◌&&◌, List, [], ◌∷◌, ◌++◌, map, length, Option, Some, None, refl, sym, ap, ◌∙◌, subst}
use Rattle.std.specs.List.{filter}
use Rattle.std.proofs.lemmas.Bool.{both_ways}
use Rattle.wat_value.specs.declared.change.Change.{Change}
use Rattle.wat_value.specs.declared.change.Change.TheVariants as change
use Rattle.wat_value.specs.Changes.{RowName, changed_table, changed_row, row_before}
use Rattle.wat_schema.specs.declared.refusal.Refusal.{Refusal}
use Rattle.wat_schema.specs.declared.refusal.Refusal.TheVariants.{Arithmetic, Duplicate}
use Rattle.wat_schema.specs.Catalog.{Listing, listing_at}
use Rattle.wat_schema.specs.Tables.{Row, Tables}
use Rattle.wat_expr.specs.Evaluation.{Combination}
use Rattle.wat_meaning.specs.declared.reply.Reply.{Reply as Meant}
use Rattle.wat_meaning.specs.declared.reply.Reply.TheVariants as meant_reply
use Rattle.wat_meaning.specs.Meaning.{meaning_checked}
use Rattle.wat_isolation.specs.Logs.{Item.Peeked, Item.Looked, Alone}
use Rattle.wat_isolation.specs.Machine as law
use Rattle.wat_isolation.specs.Naming.{scheme_of}
use Rattle.wat_isolation.specs.Sql.{sql}
use Rattle.wat_locks.specs.declared.held.Held.{Held}
use Rattle.wat_locks.specs.declared.held.Against.{Against}
use Rattle.wat_locks.specs.declared.want.Want.{Want}
use Rattle.wat_locks.specs.Held.{AreFree, entry, is_for}
use Rattle.wat_level.specs.Change.{change_wants}
use Rattle.wat_protocol.specs.Locked.{long_locks}
use Rattle.wat_protocol.proofs.MoveLemmas.{look_may}
use Rattle.wat_conn.specs.declared.answer.Answer.TheVariants.{Refused, Locked}
use Rattle.wat_history.specs.Serial.{says}
use Rattle.wat_scans.specs.declared.scan.Scan.{Scan}
use Rattle.wat_scans.specs.declared.scan.Seen.{Seen}
use Rattle.wat_scans.specs.declared.scan.Taken.{Taken}
use Rattle.wat_scans.specs.Look.{IsOf, look}
use Rattle.wat_scans.specs.Recorded.{index_of_step}
use Rattle.wat_scans.specs.Running.{Run, Next.ToVisit, Next.ToChange, Next.ToRefuse, next, progress_next, after_visit, visit_item, items_of, row_changed}
use Rattle.wat_scans.specs.Scans.{Progress}
use Rattle.wat_scans.proofs.Said.{said, duplicate_said}
use Rattle.wat_visits.specs.Asked.{visit_of}
use Rattle.wat_steps.specs.State.{CoreState, schema_of}
use Rattle.wat_steps.specs.Answering.{IsSame}
use Rattle.wat_steps.specs.Asking.{refused, with_locks}
use Rattle.wat_steps.specs.Making.{standing_row, duplicate}
use Rattle.wat_steps.specs.Visiting.{IsSeen, writes_rows, wants_of, without_visit, seen_by, visited}
use Rattle.wat_tied.specs.Tied.{IsGoing, Ghost, Ties, IsTied}
use Rattle.wat_tied.proofs.Granted.{working, listing, none, goes_later}
use Rattle.wat_tied.proofs.Keys as keys
use Rattle.wat_tied.proofs.Reading.{IsReadIn, long_stay, peeked, looked}
use Rattle.wat_tied.proofs.Refusing.{refused_tied}
use Rattle.wat_tied.proofs.Same.{same_ties}
use Rattle.wat_tied.proofs.Visiting.{same_wants, visit_read}

pub same_tied : (a b : CoreState) → IsTied a → IsSame a b → IsTied b
same_tied a b tied same = record { ghost = tied.ghost; ties = same_ties a b tied.ghost same tied.ties }

-- ---- what is next is a refusal

pub refuse_tied : (e after : CoreState) (c : ℕ) (run : Run) → IsTied e → e.stop ≡ None → (e.connections c).work ≡ Some run → (x : Refusal) → next run ≡ ToRefuse x → IsSame (refused c e run (Refused x)) after → IsTied after
refuse_tied e after c run tied going under x coming same =
    let g : Ghost = tied.ghost in
    let was : IsGoing (schema_of e) (e.connections c) run (g.work c) = working e tied c run going under in
    same_tied (refused c e run (Refused x)) after
    (refused_tied e g tied.ties c run under was e.held g.state [] tied.ties.relates tied.ties.kept refl refl (λ d ne. refl) refl (λ f. refl) (Refused x) (record { done = refl; lasts = refl; commits_none = λ d p. refl; tells = λ d p. tt })
    (λ f t r h says_r is alone.
    let one : meant_reply.Refused x ≡ r = cc in
    (said (schema_of e) was.statement was.stepped (was.written, was.checked) run was.visits was.going f t is alone).refuses x coming ∙ λ j. record { answer = one j; acts = [] }))
    same

-- ---- a conflict where the connection isn't to wait

pub locked_tied : (e after : CoreState) (c : ℕ) (run : Run) → IsTied e → e.stop ≡ None → (e.connections c).work ≡ Some run → (against : Against) → IsSame (refused c e run (Locked against)) after → IsTied after
locked_tied e after c run tied going under against same =
    let g : Ghost = tied.ghost in
    let was : IsGoing (schema_of e) (e.connections c) run (g.work c) = working e tied c run going under in
    same_tied (refused c e run (Locked against)) after
    (refused_tied e g tied.ties c run under was e.held g.state [] tied.ties.relates tied.ties.kept refl refl (λ d ne. refl) refl (λ f. refl) (Locked against) (record { done = refl; lasts = refl; commits_none = λ d p. refl; tells = λ d p. tt })
    (λ f t r h says_r is alone. absurd (let no : ◌≡◌ {A = Option Meant} None (Some r) = says_r in cc)))
    same

-- ---- WHERE has an error over what a visit sees

arithmetic_next : (run : Run) → run.progress ≡ None → next run ≡ ToRefuse Arithmetic
unfolding next
arithmetic_next run h = ap (progress_next run.task run.made) h

module _ (e : CoreState) (g : Ghost) (ties : Ties e g) (c : ℕ) (run : Run) (under : (e.connections c).work ≡ Some run) (was : IsGoing (schema_of e) (e.connections c) run (g.work c))
    (scan : Scan) (ts : List Taken) (met : List Combination) (coming : next run ≡ ToVisit scan ts met) (seen : Seen) (sees : IsSeen e (index_of_step run.task.plan scan.step) scan seen)
    (free : AreFree e.held c (wants_of run scan ts seen)) (fails : (after_visit run scan ts met seen).progress ≡ None) where
  abbrev later : Run
  later = after_visit run scan ts met seen

  abbrev fewer : List Held
  fewer = filter (λ (h : Held). not ((h.conn == c) && is_for (length ts) h.short)) e.held

  abbrev wants : List Want
  wants = wants_of run scan ts seen

  abbrev r : RowName
  r = record { table = (index_of_step run.task.plan scan.step).table; key = [] }

  made_none : run.made ≡ []
  made_none = none e g ties c run under was scan ts met coming seen sees

  told : (f : RowName → Option Row) (t : Tables) (a : Meant) → says (Refused Arithmetic) ≡ Some a → IsOf (schema_of e) f t
      → Alone sql (scheme_of (schema_of e)) f (visit_item run scan seen ∷ items_of (schema_of e) run.made was.visits) → meaning_checked t was.statement ≡ record { answer = a; acts = [] }
  told f t a says_a is alone =
      let one : meant_reply.Refused Arithmetic ≡ a = cc in
      let there : visit_item run scan seen ∷ items_of (schema_of e) run.made was.visits ≡ items_of (schema_of e) run.made (visit_item run scan seen ∷ was.visits) =
      ap (λ z. visit_item run scan seen ∷ items_of (schema_of e) z was.visits) made_none ∙ ap (λ z. items_of (schema_of e) z (visit_item run scan seen ∷ was.visits)) (sym made_none) in
      (said (schema_of e) was.statement was.stepped (was.written, was.checked) later (visit_item run scan seen ∷ was.visits) (goes_later e g ties c run under was scan ts met coming seen sees) f t is
      (subst (Alone sql (scheme_of (schema_of e)) f) there alone)).refuses Arithmetic (arithmetic_next later fails) ∙ λ j. record { answer = one j; acts = [] }

  pub fails_tied : IsTied (refused c (with_locks c wants (without_visit c (length ts) e)) run (Refused Arithmetic))
  fails_tied = by (nat_le 3 run.level) refl
    where
      by : (b : Bool) → nat_le 3 run.level ≡ b → IsTied (refused c (with_locks c wants (without_visit c (length ts) e)) run (Refused Arithmetic))
      by true serial =
          let same = same_wants run.level serial (visit_of run.task.plan (writes_rows run.task.statement) scan ts seen) in
          let o = visit_read e g.state ties.relates ties.kept c run.task.plan (writes_rows run.task.statement) scan ts fewer (long_stay g.state c (length ts) e.held ties.relates.locks)
          (listing e g ties c run under was scan ts met coming seen sees) seen sees (subst (AreFree e.held c) same free) in
          let v : IsReadIn e g.state o.0 c (visit_item run scan seen) wants (fewer ++ map (entry c) wants) = subst (λ (w : List Want). IsReadIn e g.state o.0 c (visit_item run scan seen) w (fewer ++ map (entry c) w)) (sym same) o.1 in
          refused_tied e g ties c run under was (fewer ++ map (entry c) wants) o.0 (visit_item run scan seen ∷ []) v.relates v.kept v.log v.standing v.others v.base (λ f. refl) (Refused Arithmetic) (record { done = refl; lasts = refl; commits_none = λ d p. refl; tells = λ d p. tt }) (λ f t a h says_a is alone. told f t a says_a is alone)
      by false low =
          let v = peeked e g.state ties.relates ties.kept c fewer wants free (long_stay g.state c (length ts) e.held ties.relates.locks) r in
          refused_tied e g ties c run under was (fewer ++ map (entry c) wants) (law.happens sql g.state (law.Event.Peek c r (long_locks wants))) (Peeked r (g.state.now r) ∷ []) v.relates v.kept v.log v.standing v.others v.base (λ f. refl) (Refused Arithmetic) (record { done = refl; lasts = refl; commits_none = λ d p. refl; tells = λ d p. tt })
          (λ f t a h says_a is alone. absurd (both_ways (nat_le 3 run.level) low h))

pub failed_tied : (e after : CoreState) (c : ℕ) (run : Run) → IsTied e → e.stop ≡ None → (e.connections c).work ≡ Some run
    → (scan : Scan) (ts : List Taken) (met : List Combination) → next run ≡ ToVisit scan ts met → (seen : Seen) → IsSeen e (index_of_step run.task.plan scan.step) scan seen → AreFree e.held c (wants_of run scan ts seen)
    → (after_visit run scan ts met seen).progress ≡ None → IsSame (visited c e run scan ts met seen).1 after → IsTied after
failed_tied e after c run tied going under scan ts met coming seen sees free fails same =
    let x : CoreState = refused c (with_locks c (wants_of run scan ts seen) (without_visit c (length ts) e)) run (Refused Arithmetic) in
    let is : (visited c e run scan ts met seen).1 ≡ x = ap (λ (o : Option Progress). (seen_by c (with_locks c (wants_of run scan ts seen) (without_visit c (length ts) e)) (after_visit run scan ts met seen) o).1) fails in
    same_tied x after (fails_tied e tied.ghost tied.ties c run under (working e tied c run going under) scan ts met coming seen sees free fails) (subst (λ (z : CoreState). IsSame z after) is same)

-- ---- an INSERT that finds its row

inserts : (e : CoreState) (l : Listing) (ch : Change) (other : Row) → standing_row e l ch ≡ Some other → (row_before ch ≡ None) × (look e.now (changed_row l.def ch) ≡ Some other)
inserts e l (change.Insert n row) other h = (refl, h)
inserts e l (change.Update n old new) other h = absurd (cc)
inserts e l (change.Delete n old) other h = absurd (cc)

pub duplicate_tied : (e after : CoreState) (c : ℕ) (run : Run) → IsTied e → e.stop ≡ None → (e.connections c).work ≡ Some run → (ch : Change) → next run ≡ ToChange ch → (l : Listing) → listing_at (schema_of e) (changed_table ch) ≡ Some l
    → (other : Row) → standing_row e l ch ≡ Some other → AreFree e.held c (change_wants l.def ch []) → IsSame (duplicate c e run l ch) after → IsTied after
duplicate_tied e after c run tied going under ch coming l listing other stands free same =
    same_tied (duplicate c e run l ch) after
    (refused_tied e g tied.ties c run under was (e.held ++ map (entry c) wants) (law.happens sql g.state (law.Event.Look c r (long_locks wants))) (Looked r (g.state.now r) ∷ []) v.relates v.kept v.log v.standing v.others v.base (λ f. refl) (Refused (Duplicate (changed_row l.def ch).key)) (record { done = refl; lasts = refl; commits_none = λ d p. refl; tells = λ d p. tt }) told)
    same
  where
    g : Ghost
    g = tied.ghost

    was : IsGoing (schema_of e) (e.connections c) run (g.work c)
    was = working e tied c run going under

    wants : List Want
    wants = change_wants l.def ch []

    r : RowName
    r = row_changed (schema_of e) ch

    name : r ≡ changed_row l.def ch
    name = keys.name (schema_of e) l ch listing

    v : IsReadIn e g.state (law.happens sql g.state (law.Event.Look c r (long_locks wants))) c (Looked r (g.state.now r)) wants (e.held ++ map (entry c) wants)
    v = looked e g.state tied.ties.relates tied.ties.kept c e.held wants free tied.ties.relates.locks r
        (subst (λ q. law.May sql g.state (law.Event.Look c q (long_locks wants))) (sym name) (look_may g.state e.held c l ch [] tied.ties.relates.locks free))

    found : g.state.now r ≡ Some other
    found = sym (tied.ties.relates.now.rows r) ∙ (ap (look e.now) name ∙ (inserts e l ch other stands).1)

    told : (f : RowName → Option Row) (t : Tables) (a : Meant) → nat_le 3 run.level ≡ true → says (Refused (Duplicate (changed_row l.def ch).key)) ≡ Some a → IsOf (schema_of e) f t
        → Alone sql (scheme_of (schema_of e)) f (Looked r (g.state.now r) ∷ items_of (schema_of e) run.made was.visits) → meaning_checked t was.statement ≡ record { answer = a; acts = [] }
    told f t a h says_a is alone =
        let one : meant_reply.Refused (Duplicate (changed_row l.def ch).key) ≡ a = cc in
        duplicate_said (schema_of e) was.statement was.stepped (was.written, was.checked) run was.visits was.going f t is alone.0 ch coming (inserts e l ch other stands).0 other (alone.1 ∙ found)
        ∙ ((λ j. record { answer = meant_reply.Refused (Duplicate (name j).key); acts = [] }) ∙ λ j. record { answer = one j; acts = [] })
