-- A visit that is granted, after which the statement goes on, leaves the core tied.
use Rattle.std.proofs.Common.{◌≡◌, ℕ, ◌==◌, nat_le, Bool, true, false, not, ◌&&◌, if◌then◌else◌, List, [], ◌∷◌, ◌++◌, map, length, is_some, Option, Some, None, refl, sym, ap, ◌∙◌, subst, inl}
use Rattle.std.specs.List.{filter}
use Rattle.std.proofs.lemmas.Bool.{and_from, both_ways, eqb-true}
use Rattle.wat_list.specs.Has.{Has}
use Rattle.wat_list.proofs.Members.{has_left, has_right}
use Rattle.wat_value.specs.declared.value.Value.{Value}
use Rattle.wat_value.specs.declared.place.Place.{Place}
use Rattle.wat_value.specs.declared.place.Place.TheVariants.{At, End}
use Rattle.wat_value.specs.Bounds.{is_below}
use Rattle.wat_value.specs.Changes.{RowName, row_name}
use Rattle.wat_value.specs.Fits.{key_of}
use Rattle.wat_schema.specs.Catalog.{Listing, listing_at}
use Rattle.wat_schema.specs.Tables.{Row}
use Rattle.wat_expr.specs.Logic.{is_true}
use Rattle.wat_expr.specs.Evaluation.{Combination}
use Rattle.wat_isolation.specs.Logs.{Item, Item.Peeked}
use Rattle.wat_isolation.specs.Machine as law
use Rattle.wat_isolation.specs.Sql.{sql, IndexName}
use Rattle.wat_locks.specs.declared.held.Held.{Held}
use Rattle.wat_locks.specs.declared.want.Want.{Want}
use Rattle.wat_locks.specs.Held.{AreFree, entry, is_for}
use Rattle.wat_level.specs.declared.visit.Visit.{Visit}
use Rattle.wat_level.specs.Wanted.{long_want, write_lock}
use Rattle.wat_level.specs.Visit.{read_wants, write_wants, row_wants, place_wants, visit_wants}
use Rattle.wat_plan.specs.Plans.{listing_of_step}
use Rattle.wat_plan.specs.Scanned.{ScansEach}
use Rattle.wat_protocol.specs.Locked.{long_locks}
use Rattle.wat_protocol.proofs.LockLemmas.{has_long}
use Rattle.wat_scans.specs.declared.scan.Scan.{Scan}
use Rattle.wat_scans.specs.declared.scan.Seen.{Seen}
use Rattle.wat_scans.specs.declared.scan.Taken.{Taken}
use Rattle.wat_scans.specs.Recorded.{index_of_step, HasWidth}
use Rattle.wat_scans.specs.Running.{Run, Task, task_of, Next.ToVisit, next, after_visit, visit_item, items_of}
use Rattle.wat_scans.specs.Look.{look}
use Rattle.wat_scans.specs.Scans.{Progress, is_inside, moved, rows_taken, where_at}
use Rattle.wat_scans.specs.Sources.{IsRowAt}
use Rattle.wat_scans.proofs.Found.{rows_fit}
use Rattle.wat_scans.specs.Told.{IsUnderWay}
use Rattle.wat_scans.proofs.Going.{none_before_visit, visit_goes}
use Rattle.wat_scans.proofs.Passing.{visited_pass}
use Rattle.wat_scans.proofs.Planned.{task_planned}
use Rattle.wat_scans.proofs.Rows.{step_listing}
use Rattle.wat_visits.specs.Asked.{visit_of, primary_in, row_of_place, row_passes}
use Rattle.wat_steps.specs.State.{OpenTransaction, ConnectionState, CoreState, schema_of, IsFirstFrom, with_connection}
use Rattle.wat_steps.specs.Answering.{IsSame}
use Rattle.wat_steps.specs.Asking.{with_locks, going_on}
use Rattle.wat_steps.specs.Visiting.{IsSeen, writes_rows, wants_of, without_visit, seen_by, visited}
use Rattle.wat_tied.specs.Tied.{AreStanding, RecordedPart, AreReads, IsOfStep, AreOfSteps, ArePlaced, parts_in, standing_in, IsGoing, GoesWith, AreAims, HasMet, HasMetSo, MeetsWith, Ghost, IsIdle, Ties, IsTied}
use Rattle.wat_tied.proofs.Aims.{AimsSo, listing_is, visited_aims, meets_unchanged}
use Rattle.wat_tied.proofs.Begun.{here}
use Rattle.wat_tied.proofs.Meeting.{IsFound, found, visited_meeting}
use Rattle.wat_tied.proofs.Next.{visit_progress}
use Rattle.wat_tied.proofs.Placed.{visited_placed}
use Rattle.wat_tied.proofs.Places as places
use Rattle.wat_tied.proofs.Reading.{IsReadIn, long_stay, peeked}
use Rattle.wat_tied.proofs.Renewed.{renewed, renewal, has_work}
use Rattle.wat_tied.proofs.Same.{same_ties}
use Rattle.wat_tied.proofs.Telling.{told_working}
use Rattle.wat_tied.proofs.Visiting.{same_wants, primary_is, visit_read}

-- another connection is as it was
pub there : (e : CoreState) (c : ℕ) (k : ConnectionState) (d : ℕ) → (d ≡ c → ⊥) → (with_connection c k e).connections d ≡ e.connections d
there e c k d ne = by (c == d) refl
  where
    by : (b : Bool) → (c == d) ≡ b → (if b then k else e.connections d) ≡ e.connections d
    by true is = absurd (ne (sym (eqb-true c d is)))
    by false is = refl

-- in an open transaction the connection may have anything
pub not_idle : (k : law.Connection sql) (entries : List RecordedPart) (work : List (Item sql)) (t : Option OpenTransaction) → is_some t ≡ true → IsIdle k entries work t
not_idle k entries work None h = absurd (both_ways false refl h)
not_idle k entries work (Some t) h = tt

module _ (e : CoreState) (g : Ghost) (ties : Ties e g) (c : ℕ) (run : Run) (under : (e.connections c).work ≡ Some run) (was : IsGoing (schema_of e) (e.connections c) run (g.work c))
    (scan : Scan) (ts : List Taken) (met : List Combination) (coming : next run ≡ ToVisit scan ts met) (seen : Seen) (sees : IsSeen e (index_of_step run.task.plan scan.step) scan seen) where
  abbrev i : IndexName
  i = index_of_step run.task.plan scan.step

  abbrev later : Run
  later = after_visit run scan ts met seen

  abbrev k : ConnectionState
  k = record (e.connections c) { work = Some later; request = None }

  abbrev wants : List Want
  wants = wants_of run scan ts seen

  abbrev fewer : List Held
  fewer = filter (λ (h : Held). not ((h.conn == c) && is_for (length ts) h.short)) e.held

  abbrev after : CoreState
  after = going_on c later (with_locks c wants (without_visit c (length ts) e))

  progress : run.progress ≡ Some (record { scan = Some scan; taken = ts; met = met })
  progress = visit_progress run scan ts met coming

  plan : ScansEach (schema_of e) (task_of (schema_of e) was.statement).plan
  plan = task_planned (schema_of e) was.statement ties.schema

  planned : ScansEach (schema_of e) run.task.plan
  planned = subst (λ (z : Task). ScansEach (schema_of e) z.plan) (sym was.going.task) plan

  placed : AreOfSteps run.task.plan (record { scan = Some scan; taken = ts; met = met })
  placed = subst (ArePlaced run.task.plan) progress was.placed

  pub listing : listing_at (schema_of e) (listing_of_step run.task.plan scan.step).def.number ≡ Some (listing_of_step run.task.plan scan.step)
  listing = let d : IsOfStep run.task.plan scan = placed.scan scan refl in
      planned.known scan.step.source (listing_of_step run.task.plan scan.step) (step_listing (schema_of e) run.task.plan planned d.0 scan.step d.1)

  long : (place : Place) → IsFirstFrom e i scan.from place → HasWidth run.task.plan scan.step place
  long End first = tt
  long (At key) first = places.position_long e g.state ties.relates i key (listing_of_step run.task.plan scan.step) listing (places.position_from e g.state ties.relates i key first.1)

  pub none : run.made ≡ []
  none = none_before_visit (schema_of e) was.statement run was.visits was.going scan ts met progress

  pub goes_later : IsUnderWay (schema_of e) was.statement later (visit_item run scan seen ∷ was.visits)
  goes_later = visit_goes (schema_of e) was.statement run was.visits plan was.going scan ts met seen progress (long seen.place sees.first)

  -- ---- what is met then

  module _ (on : e.stop ≡ None) where
    met_before : HasMet g.state c run (record { scan = Some scan; taken = ts; met = met })
    met_before = subst (HasMetSo g.state c run) progress (subst (MeetsWith g.state c) under (ties.meets on c))

    seen_row : (key : List Value) (row : Row) → seen.place ≡ At key → seen.row ≡ Some row → is_below scan.interval.upper key ≡ true → IsFound (schema_of e) run.task.plan planned (look e.now) scan.step key row
    seen_row key row place here low =
        found (schema_of e) run.task.plan planned (look e.now) (rows_fit (schema_of e) (look e.now) e.now (record { tables = ties.relates.now.tables; schema = refl; rows = λ r. refl })) (length ts) scan.step met_before.meeting.at.0 key row
        (subst (IsRowAt (schema_of e) (look e.now) i (At key)) here (subst (λ q. IsRowAt (schema_of e) (look e.now) i q seen.row) place (sees.row (ap (is_inside scan) place ∙ low))))

    has_write : (visit : Visit) (key : List Value) → visit.past ≡ false → visit.row ≡ Some key → visit.writes ≡ true → Has (long_want (write_lock visit.table key)) (visit_wants run.level visit)
    has_write visit key past row writes =
        has_left (long_want (write_lock visit.table key)) (if visit.past then [] else row_wants run.level visit visit.row) (place_wants run.level visit)
        (subst (λ b. Has (long_want (write_lock visit.table key)) (if b then [] else row_wants run.level visit visit.row)) (sym past)
        (subst (λ o. Has (long_want (write_lock visit.table key)) (row_wants run.level visit o)) (sym row)
        (has_right (long_want (write_lock visit.table key)) (read_wants run.level visit.scan visit.table key) (write_wants visit.writes visit.table key)
        (subst (λ b. Has (long_want (write_lock visit.table key)) (write_wants b visit.table key)) (sym writes) (inl refl)))))

    module _ (t : law.State sql) (item : Item sql) (v : IsReadIn e g.state t c item wants (fewer ++ map (entry c) wants)) where
      got : writes_rows run.task.statement ≡ true → (key : List Value) (row : Row) → seen.place ≡ At key → seen.row ≡ Some row → is_below scan.interval.upper key ≡ true
          → is_true (where_at run.task.plan (rows_taken run.task.plan (record { scan = moved scan key; row = row } ∷ ts))) ≡ true → Has (law.Lock.Write (row_name (listing_of_step run.task.plan scan.step).def row)) (t.conns c).locks
      got writes key row place here low passes =
          let k = seen_row key row place here low in
          let visit : Visit = visit_of run.task.plan (writes_rows run.task.statement) scan ts seen in
          let primary : primary_in run.task.plan scan.step key ≡ key_of (listing_of_step run.task.plan scan.step).def row = primary_is (schema_of e) run.task.plan scan.step listing key ∙ ap (λ (z : RowName). z.key) k.name in
          v.gets (law.Lock.Write (row_name (listing_of_step run.task.plan scan.step).def row)) (has_long wants (law.Lock.Write (row_name (listing_of_step run.task.plan scan.step).def row))
          (has_write visit (key_of (listing_of_step run.task.plan scan.step).def row) (ap not (ap (is_inside scan) place ∙ low)) (ap (row_of_place run.task.plan scan.step) place ∙ ap Some primary)
          (and_from (writes_rows run.task.statement) (row_passes run.task.plan scan ts seen.row) writes (ap (row_passes run.task.plan scan ts) here ∙ passes))))

      aims_later : writes_rows run.task.statement ≡ true → (l : Listing) → run.task.plan.sources ≡ l ∷ [] → AimsSo t c run.task.plan l later.progress
      aims_later writes l sources =
          let is : listing_of_step run.task.plan scan.step ≡ l = listing_is (schema_of e) run.task.plan planned l sources (length ts) scan.step met_before.meeting.at.0 in
          visited_aims (schema_of e) run.task.plan planned l sources g.state t c scan ts met met_before.meeting.outside met_before.meeting.at.0
          (subst (λ z. AreAims g.state c run.task.plan l z (record { scan = Some scan; taken = ts; met = met })) none (met_before.aims writes l sources)) v.now v.locks seen
          (λ key place. (subst (IsFirstFrom e i scan.from) place sees.first).0)
          (λ key row place here low. let k = seen_row key row place here low in (
            k.values,
            sym (ties.relates.now.rows (row_name l.def row)) ∙ subst (λ (z : Listing). look e.now (row_name z.def row) ≡ Some row) is k.stands,
            λ passes. subst (λ (z : Listing). Has (law.Lock.Write (row_name z.def row)) (t.conns c).locks) is (got writes key row place here low passes),
          ))

      meets_then : MeetsWith t c (Some later)
      meets_then = meets_unchanged t c later none later.progress (visited_meeting (schema_of e) run.task.plan planned scan ts met seen met_before.meeting (look e.now) seen_row) (visited_pass run.task.plan scan ts met seen met_before.passes) aims_later

  module _ (item : Item sql) (reads : AreReads was.reads → AreReads (item ∷ was.reads)) (three : nat_le 3 run.level ≡ true → item ≡ visit_item run scan seen) where
    pub goes_on : IsGoing (schema_of e) k later (item ∷ g.work c)
    goes_on = record {
      span = was.span;
      more = was.more;
      first = was.first;
      written = was.written;
      read = was.read;
      statement = was.statement;
      checked = was.checked;
      stepped = was.stepped;
      level = was.level;
      visits = visit_item run scan seen ∷ was.visits;
      going = goes_later;
      placed = visited_placed run.task.plan scan ts met seen placed;
      reads = item ∷ was.reads;
      reading = reads was.reading;
      at_three = λ h. ap (λ z. z ∷ was.reads) (three h) ∙ ap (λ z. visit_item run scan seen ∷ z) (was.at_three h);
      recorded = ap (λ z. item ∷ z) (was.recorded ∙ ap (λ m. items_of (schema_of e) m was.reads) none) ∙ sym (ap (λ m. items_of (schema_of e) m (item ∷ was.reads)) none);
      has_transaction = was.has_transaction;
    }

    pub visit_ties : (t : law.State sql) → IsReadIn e g.state t c item wants (fewer ++ map (entry c) wants) → Ties after (renewal g c t (g.entries c) (item ∷ g.work c) g.history)
    visit_ties t v = renewed e after g ties c t k (g.entries c) (item ∷ g.work c) g.history (record {
      kept = v.kept;
      relates = record { scheme = v.relates.scheme; now = v.relates.now; base = v.relates.base; locks = v.relates.locks; vacant = v.relates.vacant };
      same = refl;
      stop = refl;
      count = refl;
      outside = λ out. absurd (has_work e g ties c was.span was.more was.first out);
      here = here e c k;
      there = there e c k;
      others = v.others;
      rows = λ d ne r h. ap (λ f. f r) v.now;
      log = v.log ∙ ap (λ z. item ∷ z) (ties.log c);
      standing = subst (AreStanding (schema_of e) (standing_in (e.connections c).transaction (Some later))) (sym v.standing)
          (subst (λ (z : Option Run). AreStanding (schema_of e) (standing_in (e.connections c).transaction z) (g.state.conns c).standing) under (ties.standing c));
      idle = not_idle (t.conns c) (g.entries c) (item ∷ g.work c) (e.connections c).transaction was.has_transaction;
      works = λ going. goes_on;
      meets = λ on. meets_then on t item v;
      parts = ties.parts c;
      serial = ties.serial;
      told = told_working (e.connections c) later (parts_in (g.entries c)) (ties.told c);
      commits = inl (refl, refl, refl);
      based = refl;
      adds = inl refl;
    })

  pub granted_tied : AreFree e.held c wants → IsTied after
  granted_tied free = by (nat_le 3 run.level) refl
    where
      r : RowName
      r = record { table = i.table; key = [] }

      by : (b : Bool) → nat_le 3 run.level ≡ b → IsTied after
      by true serial =
          let same : visit_wants run.level (visit_of run.task.plan (writes_rows run.task.statement) scan ts seen) ≡ visit_wants 3 (visit_of run.task.plan (writes_rows run.task.statement) scan ts seen) =
          same_wants run.level serial (visit_of run.task.plan (writes_rows run.task.statement) scan ts seen) in
          let v = visit_read e g.state ties.relates ties.kept c run.task.plan (writes_rows run.task.statement) scan ts fewer (long_stay g.state c (length ts) e.held ties.relates.locks) listing seen sees (subst (AreFree e.held c) same free) in
          record {
            ghost = renewal g c v.0 (g.entries c) (visit_item run scan seen ∷ g.work c) g.history;
            ties = visit_ties (visit_item run scan seen) (λ h. h) (λ h. refl) v.0 (subst (λ (w : List Want). IsReadIn e g.state v.0 c (visit_item run scan seen) w (fewer ++ map (entry c) w)) (sym same) v.1);
          }
      by false low =
          let v = peeked e g.state ties.relates ties.kept c fewer wants free (long_stay g.state c (length ts) e.held ties.relates.locks) r in
          let t : law.State sql = law.happens sql g.state (law.Event.Peek c r (long_locks wants)) in
          record {
            ghost = renewal g c t (g.entries c) (Peeked r (g.state.now r) ∷ g.work c) g.history;
            ties = visit_ties (Peeked r (g.state.now r)) (λ h. h) (λ h. absurd (both_ways (nat_le 3 run.level) low h)) t v;
          }

pub working : (e : CoreState) (tied : IsTied e) (c : ℕ) (run : Run) → e.stop ≡ None → (e.connections c).work ≡ Some run → IsGoing (schema_of e) (e.connections c) run (tied.ghost.work c)
working e tied c run going under = subst (λ (work : Option Run). GoesWith (schema_of e) (e.connections c) work (tied.ghost.work c)) under (tied.ties.works going c)

pub visit_tied : (e after : CoreState) (c : ℕ) (run : Run) → IsTied e → e.stop ≡ None → (e.connections c).work ≡ Some run
    → (scan : Scan) (ts : List Taken) (met : List Combination) → next run ≡ ToVisit scan ts met → (seen : Seen) → IsSeen e (index_of_step run.task.plan scan.step) scan seen → AreFree e.held c (wants_of run scan ts seen)
    → (w : Progress) → (after_visit run scan ts met seen).progress ≡ Some w → IsSame (visited c e run scan ts met seen).1 after → IsTied after
visit_tied e after c run tied going under scan ts met coming seen sees free w goes same =
    let later : Run = after_visit run scan ts met seen in
    let x : CoreState = going_on c later (with_locks c (wants_of run scan ts seen) (without_visit c (length ts) e)) in
    let is : (visited c e run scan ts met seen).1 ≡ x = ap (λ (o : Option Progress). (seen_by c (with_locks c (wants_of run scan ts seen) (without_visit c (length ts) e)) later o).1) goes in
    let now : IsTied x = granted_tied e tied.ghost tied.ties c run under (working e tied c run going under) scan ts met coming seen sees free in
    record { ghost = now.ghost; ties = same_ties x after now.ghost (subst (λ (z : CoreState). IsSame z after) is same) now.ties }
