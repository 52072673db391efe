-- The rows that an UPDATE or DELETE has met stay locked and as they were met, until they are changed: through visits, its own changes, and the steps of
-- others.
use Rattle.std.proofs.Common.{◌≡◌, ℕ, suc, ◌<◌, ◌≤◌, ◌==◌, Bool, true, false, List, [], ◌∷◌, ◌++◌, length, map, if◌then◌else◌, Option, Some, None, refl, sym, ap, ◌∙◌, subst, inl, ⊎_elim, arith}
use Rattle.std.specs.Prelude.{slice_get, slice_index_or}
use Rattle.std.specs.List.{range_with_len}
use Rattle.std.proofs.lemmas.Bool.{both_ways}
use Rattle.std.proofs.lemmas.List.{map-append}
use Rattle.wat_list.specs.Has.{Has, IsOnce}
use Rattle.wat_list.proofs.Members.{has_cases, has_left, has_right, has_map}
use Rattle.wat_list.proofs.Once.{once_push}
use Rattle.wat_value.specs.declared.value.Value.{Value}
use Rattle.wat_value.specs.declared.change.Change.{Change}
use Rattle.wat_value.specs.declared.bound.Interval.{Interval}
use Rattle.wat_value.specs.declared.place.Place.{Place}
use Rattle.wat_value.specs.declared.place.Place.TheVariants.{At, End}
use Rattle.wat_value.specs.declared.bound.Bound.TheVariants.{Excluding}
use Rattle.wat_value.specs.Bounds.{is_above, is_below}
use Rattle.wat_value.specs.Changes.{RowName, row_name, row_before}
use Rattle.wat_value.specs.Fits.{key_of, values_in}
use Rattle.wat_value.specs.Order.{key_cmp}
use Rattle.wat_value.specs.OrderLaws.{key_cmp_refl}
use Rattle.wat_schema.specs.Catalog.{Catalog, Listing}
use Rattle.wat_schema.specs.Tables.{Row}
use Rattle.wat_expr.specs.declared.outcome.Outcome.{Outcome}
use Rattle.wat_expr.specs.declared.outcome.Outcome.TheVariants as outcome
use Rattle.wat_expr.specs.Logic.{is_true}
use Rattle.wat_expr.specs.Evaluation.{Combination}
use Rattle.wat_index.proofs.Cuts.{before_bound, lt_not_gt, not_behind}
use Rattle.wat_interval.specs.Intervals.{is_empty}
use Rattle.wat_isolation.specs.Rows.{set_row}
use Rattle.wat_isolation.specs.Machine as law
use Rattle.wat_isolation.specs.Sql.{sql, less_key, key_order}
use Rattle.wat_isolation.proofs.Basics.{row_same, put-other}
use Rattle.wat_meaning.specs.Meaning.{sole_row}
use Rattle.wat_plan.specs.declared.choice.PlanStep.{PlanStep}
use Rattle.wat_plan.specs.Plans.{ScanPlan, no_listing, listing_of_step, columns_of_step, interval_at}
use Rattle.wat_plan.specs.Scanned.{ScansEach}
use Rattle.std.specs.Ordering.{is_gt}
use Rattle.wat_scans.specs.declared.scan.Scan.{Scan}
use Rattle.wat_scans.specs.declared.scan.Seen.{Seen}
use Rattle.wat_scans.specs.declared.scan.Taken.{Taken}
use Rattle.wat_scans.specs.Recorded.{AreTaken, MetPass}
use Rattle.wat_scans.specs.Running.{Run, after_change}
use Rattle.wat_scans.specs.Scans.{Progress, row_taken, rows_taken, step_key, where_at, resumed, tested, began, begun, entered_at, entered, moved, visited_at, visited_place, visited}
use Rattle.wat_scans.proofs.Rows.{get_within, get_none}
use Rattle.wat_steps.specs.Visiting.{writes_rows}
use Rattle.wat_tied.proofs.Meeting.{MeetsSo}
use Rattle.wat_tied.specs.Tied.{IsAimedAt, AreAims, HasMetSo, MeetsWith}

-- ---- the steps of others

-- the rows on which the connection holds Write are as before, and so is all else of it
module _ (s t : law.State sql) (c : ℕ) (same : t.conns c ≡ s.conns c) (rows : (r : RowName) → Has (law.Lock.Write r) (s.conns c).locks → t.now r ≡ s.now r) where
  aim_stays : (l : Listing) (made : List Change) (row : Row) → IsAimedAt s c l made row → IsAimedAt t c l made row
  aim_stays l made row k = record {
    write = subst (λ (z : law.Connection sql). Has (law.Lock.Write (row_name l.def row)) z.locks) (sym same) k.write;
    stands = λ u. rows (row_name l.def row) k.write ∙ k.stands u;
  }

  pub meets_stay : (work : Option Run) → MeetsWith s c work → MeetsWith t c work
  meets_stay None k = tt
  meets_stay (Some run) k = by run.progress k
    where
      by : (o : Option Progress) → HasMetSo s c run o → HasMetSo t c run o
      by None m = tt
      by (Some w) m = record {
        meeting = m.meeting;
        passes = m.passes;
        aims = λ writes l sources. let a = m.aims writes l sources in
            record { each = λ d has. let r = a.each d has in (r.0, r.1, aim_stays l run.made r.0 r.2); once = a.once; before = a.before };
      }

-- ---- its own changes

module _ (s t : law.State sql) (c : ℕ) (r : RowName) (ch : Change) (became : Option Row) (now : t.now ≡ set_row sql s.now r became) (locks : (m : law.Lock sql) → Has m (s.conns c).locks → Has m (t.conns c).locks) (before : s.now r ≡ row_before ch) where
  aim_changed : (l : Listing) (made : List Change) (row : Row) → IsAimedAt s c l made row → IsAimedAt t c l (made ++ ch ∷ []) row
  aim_changed l made row k = record {
    write = locks (law.Lock.Write (row_name l.def row)) k.write;
    stands = λ u.
        let stood : s.now (row_name l.def row) ≡ Some row = k.stands (λ x has old. u x (has_left x made (ch ∷ []) has) old) in
        let other : row_name l.def row ≡ r → ⊥ = λ is. u ch (has_right ch made (ch ∷ []) (inl refl)) (sym before ∙ (ap s.now (sym is) ∙ stood)) in
        ap (λ f. f (row_name l.def row)) now ∙ (put-other sql.same (row_same sql) s.now r became (row_name l.def row) other ∙ stood);
  }

  pub meets_changed : (run : Run) → MeetsWith s c (Some run) → MeetsWith t c (Some (after_change run ch))
  meets_changed run k = by run.progress k
    where
      by : (o : Option Progress) → HasMetSo s c run o → HasMetSo t c (after_change run ch) o
      by None m = tt
      by (Some w) m = record {
        meeting = m.meeting;
        passes = m.passes;
        aims = λ writes l sources. let a = m.aims writes l sources in
            record { each = λ d has. let x = a.each d has in (x.0, x.1, aim_changed l run.made x.0 x.2); once = a.once; before = a.before };
      }

-- ---- visits

abbrev pub AimsSo : law.State sql → ℕ → ScanPlan → Listing → Option Progress → Type 0
AimsSo s c p l None = Unit {0}
AimsSo s c p l (Some w) = AreAims s c p l [] w

module _ (cat : Catalog) (p : ScanPlan) (ok : ScansEach cat p) (l : Listing) (sources : p.sources ≡ l ∷ []) where
  -- ---- a plan of one table

  one_long : length p.sources ≡ 1
  one_long = ap length sources

  first_source : (depth : ℕ) (step : PlanStep) → slice_get p.steps depth ≡ Some step → step.source ≡ 0
  first_source depth step at = let h : step.source < length p.sources = ok.stands depth step at in omega (arith, h, one_long)

  pub listing_is : (depth : ℕ) (step : PlanStep) → slice_get p.steps depth ≡ Some step → listing_of_step p step ≡ l
  listing_is depth step at = λ j. slice_index_or (sources j) (first_source depth step at j) no_listing

  no_outer : (ts : List Taken) (step : PlanStep) → AreTaken p ts → slice_get p.steps (length ts) ≡ Some step → ts ≡ []
  no_outer [] step are at = refl
  no_outer (t ∷ ts) step are at =
      let e : length ts ≡ suc (length ts) = ok.once (length ts) (suc (length ts)) t.scan.step step are.0.0 at (first_source (length ts) t.scan.step are.0.0 ∙ sym (first_source (suc (length ts)) step at)) in
      absurd (omega (arith, e))

  no_inner : (step other : PlanStep) → slice_get p.steps 0 ≡ Some step → slice_get p.steps 1 ≡ Some other → ⊥
  no_inner step other at next =
      let e : 0 ≡ 1 = ok.once 0 1 step other at next (first_source 0 step at ∙ sym (first_source 1 other next)) in omega (arith, e)

  sole_taken : (t : Taken) → slice_get p.steps 0 ≡ Some t.scan.step → rows_taken p (t ∷ []) ≡ Some t.row ∷ []
  sole_taken t at = ap (λ n. map (row_taken (t ∷ [])) (range_with_len 0 n)) one_long ∙ ap (λ n. (if n == 0 then Some t.row else None) ∷ []) (first_source 0 t.scan.step at)

  module _ (s t : law.State sql) (c : ℕ) (scan : Scan) (met : List Combination) (at : slice_get p.steps 0 ≡ Some scan.step) (old : AreAims s c p l [] (record { scan = Some scan; taken = []; met = met }))
      (now : t.now ≡ s.now) (locks : (m : law.Lock sql) → Has m (s.conns c).locks → Has m (t.conns c).locks) where
    same_each : (d : Combination) → Has d met → (row : Row) × (d ≡ Some row ∷ []) × IsAimedAt t c l [] row
    same_each d m = let r = old.each d m in (r.0, r.1, record { write = locks (law.Lock.Write (row_name l.def r.0)) r.2.write; stands = λ u. ap (λ f. f (row_name l.def r.0)) now ∙ r.2.stands u })

    no_scan : (z : Scan) → ◌≡◌ {A = Option Scan} None (Some z) → ⊥
    no_scan z e = cc

    past_aims : AreAims t c p l [] (resumed [] met)
    past_aims = record { each = same_each; once = old.once; before = λ z e d m. absurd (no_scan z e) }

    module _ (key : List Value) (first : is_above scan.from key ≡ true) where
      -- what comes before the bound comes before the key that it admits
      later : (x : List Value) → is_above scan.from x ≡ false → is_above (Excluding key) x ≡ false
      later x h = not_behind key x (⊎_elim
          (λ (e : x ≡ key). ap is_gt (ap (λ z. key_cmp z key) e ∙ key_cmp_refl key))
          (λ r. ⊎_elim
          (λ (less : less_key x key ≡ true). lt_not_gt (key_cmp x key) less)
          (λ (more : less_key key x ≡ true). absurd (both_ways (is_above scan.from key) (before_bound scan.from key x more h) first))
          r)
          (key_order x key))

      before_all : (z : Scan) → moved scan key ≡ z → (d : Combination) → Has d met → is_above z.from (step_key p z.step d) ≡ false
      before_all z e d m = subst (λ (y : Scan). is_above y.from (step_key p y.step d) ≡ false) e (later (step_key p scan.step d) (old.before scan refl d m))

      same_scan : (z : Scan) → ◌≡◌ {A = Option Scan} (Some (moved scan key)) (Some z) → moved scan key ≡ z
      same_scan z e = cc

      moved_aims : AreAims t c p l [] (record { scan = Some (moved scan key); taken = []; met = met })
      moved_aims = record { each = same_each; once = old.once; before = λ z e d m. before_all z (same_scan z e) d m }

      module _ (row : Row) (values : values_in row (columns_of_step p scan.step) ≡ key) (stood : s.now (row_name l.def row) ≡ Some row) where
        abbrev new : Combination
        new = Some row ∷ []

        key_new : step_key p scan.step new ≡ key
        key_new = ap (λ n. Rattle.wat_conjuncts.specs.Outside.values_at new n (columns_of_step p scan.step)) (first_source 0 scan.step at) ∙ values

        key_is : Combination → List Value
        key_is d = key_of l.def (sole_row d)

        -- a row with its primary key would be the row itself, and come before the bound
        apart : Has (key_of l.def row) (map (λ d. key_of l.def (sole_row d)) met) → ⊥
        apart h =
            let m = has_map (λ d. key_of l.def (sole_row d)) (key_of l.def row) met h in
            let r = old.each m.0 m.1 in
            let keys : key_of l.def r.0 ≡ key_of l.def row = ap (λ d. key_of l.def (sole_row d)) (sym r.1) ∙ m.2 in
            let both : Some r.0 ≡ Some row = sym (r.2.stands (λ x has o. absurd has)) ∙ ((λ j. s.now (record { table = l.def.number; key = keys j })) ∙ stood) in
            let same : r.0 ≡ row = cc in
            both_ways (is_above scan.from key) (ap (is_above scan.from) (sym key_new ∙ ap (step_key p scan.step) ((λ j. Some (sym same j) ∷ []) ∙ sym r.1)) ∙ old.before scan refl m.0 m.1) first

        grown_aims : Has (law.Lock.Write (row_name l.def row)) (t.conns c).locks → AreAims t c p l [] (record { scan = Some (moved scan key); taken = []; met = met ++ new ∷ [] })
        grown_aims write = record {
          each = λ d m. ⊎_elim
              (λ (h : Has d met). same_each d h)
              (λ (h : Has d (new ∷ [])). ⊎_elim
              (λ (e : new ≡ d). (row, sym e, record { write = write; stands = λ u. ap (λ f. f (row_name l.def row)) now ∙ stood }))
              (λ n. absurd n)
              h)
              (has_cases d met (new ∷ []) m);
          once = subst IsOnce (sym (map-append (λ d. key_of l.def (sole_row d)) met (new ∷ []))) (once_push (key_of l.def row) (map (λ d. key_of l.def (sole_row d)) met) old.once apart);
          before = λ z e d m. ⊎_elim
              (λ (h : Has d met). before_all z (same_scan z e) d h)
              (λ (h : Has d (new ∷ [])). ⊎_elim
              (λ (is : new ≡ d). subst (λ (y : Scan). is_above y.from (step_key p y.step d) ≡ false) (same_scan z e)
              (subst (λ x. is_above (Excluding key) (step_key p scan.step x) ≡ false) is (ap (is_above (Excluding key)) key_new ∙ not_behind key key (ap is_gt (key_cmp_refl key)))))
              (λ n. absurd n)
              h)
              (has_cases d met (new ∷ []) m);
        }

        tested_aims : (o : Outcome) → (is_true o ≡ true → Has (law.Lock.Write (row_name l.def row)) (t.conns c).locks) → AimsSo t c p l (tested o (record { scan = moved scan key; row = row } ∷ []) met new)
        tested_aims outcome.Error write = tt
        tested_aims outcome.True write = grown_aims (write refl)
        tested_aims (outcome.Is v) write = moved_aims
        tested_aims outcome.False write = moved_aims
        tested_aims outcome.Unknown write = moved_aims

    -- what is known of a row that is seen
    pub record IsSeenRow (key : List Value) (row : Row) : Type 0 where
      pub values : values_in row (columns_of_step p scan.step) ≡ key
      pub stood : s.now (row_name l.def row) ≡ Some row
      pub write : is_true (where_at p (rows_taken p (record { scan = moved scan key; row = row } ∷ []))) ≡ true → Has (law.Lock.Write (row_name l.def row)) (t.conns c).locks

    entered_aims : (key : List Value) → is_above scan.from key ≡ true → (row : Row) → IsSeenRow key row → AimsSo t c p l (entered p (record { scan = moved scan key; row = row } ∷ []) met)
    entered_aims key first row k = by (slice_get p.steps 1) refl
      where
        one : Taken
        one = record { scan = moved scan key; row = row }

        by : (o : Option PlanStep) → slice_get p.steps 1 ≡ o → AimsSo t c p l (entered_at p (record { scan = moved scan key; row = row } ∷ []) met o)
        by (Some other) e = absurd (no_inner scan.step other at e)
        by None e = subst (λ z. AimsSo t c p l (tested (where_at p (rows_taken p (record { scan = moved scan key; row = row } ∷ []))) (record { scan = moved scan key; row = row } ∷ []) met z)) (sym (sole_taken one at))
            (tested_aims key first row k.values k.stood (where_at p (rows_taken p (record { scan = moved scan key; row = row } ∷ []))) k.write)

    sole_visited : (seen : Seen) → ((key : List Value) → seen.place ≡ At key → is_above scan.from key ≡ true) → ((key : List Value) (row : Row) → seen.place ≡ At key → seen.row ≡ Some row → is_below scan.interval.upper key ≡ true → IsSeenRow key row)
        → AimsSo t c p l (visited p scan [] met seen)
    unfolding visited
    sole_visited seen first sees = by seen.row refl seen.place refl
      where
        inside : (row : Option Row) → seen.row ≡ row → (key : List Value) → seen.place ≡ At key → (b : Bool) → is_below scan.interval.upper key ≡ b → AimsSo t c p l (if b then visited_at p scan [] met key row else Some (resumed [] met))
        inside row here key e false low = past_aims
        inside None here key e true low = moved_aims key (first key e)
        inside (Some row) here key e true low = entered_aims key (first key e) row (sees key row e here low)

        by : (row : Option Row) → seen.row ≡ row → (place : Place) → seen.place ≡ place → AimsSo t c p l (visited_place p scan [] met row place)
        by row here End e = past_aims
        by row here (At key) e = inside row here key e (is_below scan.interval.upper key) refl

  -- a visit of whichever scan: there is only one
  pub visited_aims : (s t : law.State sql) (c : ℕ) (scan : Scan) (ts : List Taken) (met : List Combination) → AreTaken p ts → slice_get p.steps (length ts) ≡ Some scan.step → AreAims s c p l [] (record { scan = Some scan; taken = ts; met = met })
      → t.now ≡ s.now → ((m : law.Lock sql) → Has m (s.conns c).locks → Has m (t.conns c).locks) → (seen : Seen) → ((key : List Value) → seen.place ≡ At key → is_above scan.from key ≡ true)
      → ((key : List Value) (row : Row) → seen.place ≡ At key → seen.row ≡ Some row → is_below scan.interval.upper key ≡ true → (values_in row (columns_of_step p scan.step) ≡ key) × (s.now (row_name l.def row) ≡ Some row)
      × (is_true (where_at p (rows_taken p (record { scan = moved scan key; row = row } ∷ ts))) ≡ true → Has (law.Lock.Write (row_name l.def row)) (t.conns c).locks))
      → AimsSo t c p l (visited p scan ts met seen)
  visited_aims s t c scan ts met are at old now locks seen first sees =
      let none : ts ≡ [] = no_outer ts scan.step are at in
      subst (λ z. AimsSo t c p l (visited p scan z met seen)) (sym none)
      (sole_visited s t c scan met (subst (λ (z : List Taken). slice_get p.steps (length z) ≡ Some scan.step) none at) (record { each = old.each; once = old.once; before = old.before }) now locks seen first
      (λ key row place here low. let k = sees key row place here low in
      record {
        values = k.0;
        stood = k.1;
        write = subst (λ (z : List Taken). is_true (where_at p (rows_taken p (record { scan = moved scan key; row = row } ∷ z))) ≡ true → Has (law.Lock.Write (row_name l.def row)) (t.conns c).locks) none k.2;
      }))

  -- ---- before the first visit

  nothing_met : (s : law.State sql) (c : ℕ) (w : Progress) → w.met ≡ [] → AreAims s c p l [] w
  nothing_met s c w none = record {
    each = λ d m. absurd (subst (Has d) none m);
    once = subst (λ z. IsOnce (map (λ d. key_of l.def (sole_row d)) z)) (sym none) tt;
    before = λ z e d m. absurd (subst (Has d) none m);
  }

  began_aims : (s : law.State sql) (c : ℕ) (b : Bool) (step : PlanStep) (i : Interval) → AreAims s c p l [] (began b step i [] [])
  began_aims s c true step i = nothing_met s c (began true step i [] []) refl
  began_aims s c false step i = nothing_met s c (began false step i [] []) refl

  pub begun_aims : (s : law.State sql) (c : ℕ) → AimsSo s c p l (begun p)
  unfolding begun
  begun_aims s c = by (slice_get p.steps 0) refl
    where
      by : (o : Option PlanStep) → slice_get p.steps 0 ≡ o → AimsSo s c p l (entered_at p [] [] o)
      by (Some step) e = began_aims s c (is_empty (interval_at p 0 (rows_taken p []))) step (interval_at p 0 (rows_taken p []))
      by None e =
          let a = ok.each 0 (omega (arith, one_long)) in
          let w : a.0 < length p.steps = get_within p.steps a.0 a.1 a.2 in
          let g : length p.steps ≤ 0 = get_none p.steps 0 e in
          absurd (omega (arith, w, g))

-- what is known where nothing is changed yet
pub meets_unchanged : (s : law.State sql) (c : ℕ) (run : Run) → run.made ≡ [] → (o : Option Progress) → MeetsSo run.task.plan o → MetPass run.task.plan o
    → (writes_rows run.task.statement ≡ true → (l : Listing) → run.task.plan.sources ≡ l ∷ [] → AimsSo s c run.task.plan l o) → HasMetSo s c run o
meets_unchanged s c run none None meeting pass aims = tt
meets_unchanged s c run none (Some w) meeting pass aims = record {
  meeting = meeting;
  passes = pass;
  aims = λ writes l sources. subst (λ z. AreAims s c run.task.plan l z w) (sym none) (aims writes l sources);
}
