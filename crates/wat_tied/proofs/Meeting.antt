-- What a statement has met fits, whatever the tables were when it met it.
use Rattle.std.proofs.Common.{◌≡◌, ℕ, zero, suc, ◌+◌, ◌<◌, ◌≤◌, Bool, true, false, List, [], ◌∷◌, ◌++◌, length, map, slice_index_or, if◌then◌else◌, Option, Some, None, refl, sym, ap, ◌∙◌, subst, inl, inr, ⊎_elim, arith}
use Rattle.std.specs.Prelude.{slice_get}
use Rattle.std.specs.List.{range_with_len}
use Rattle.std.proofs.lemmas.Bool.{and_from}
use Rattle.wat_list.specs.Has.{Has}
use Rattle.wat_list.proofs.Members.{has_cases}
use Rattle.wat_value.specs.declared.value.Value.{Value}
use Rattle.wat_value.specs.declared.bound.Interval.{Interval}
use Rattle.wat_value.specs.declared.place.Place.{Place}
use Rattle.wat_value.specs.declared.place.Place.TheVariants.{At, End}
use Rattle.wat_value.specs.declared.bound.Bound.TheVariants.{Excluding}
use Rattle.wat_value.specs.Bounds.{is_below}
use Rattle.wat_value.specs.Changes.{RowName, row_name}
use Rattle.wat_value.specs.Fits.{fits, key_of, values_in}
use Rattle.wat_value.specs.Indexes.{index_key}
use Rattle.wat_schema.specs.Catalog.{Catalog, Listing}
use Rattle.wat_schema.specs.Tables.{Row}
use Rattle.wat_expr.specs.declared.outcome.Outcome.{Outcome}
use Rattle.wat_expr.specs.declared.outcome.Outcome.TheVariants as outcome
use Rattle.wat_expr.specs.Evaluation.{Combination}
use Rattle.wat_interval.specs.Intervals.{is_empty}
use Rattle.wat_isolation.specs.Rows.{Lookup}
use Rattle.wat_isolation.specs.Naming.{KeyOf, key_parts, owner_in, scheme_of}
use Rattle.wat_isolation.specs.Sql.{sql}
use Rattle.wat_meaning.specs.Standing.{combination_fits}
use Rattle.wat_plan.specs.declared.choice.PlanStep.{PlanStep}
use Rattle.wat_plan.specs.Plans.{ScanPlan, listing_of_step, columns_of_step, interval_at}
use Rattle.wat_plan.specs.Scanned.{ScansEach}
use Rattle.wat_scans.specs.declared.scan.Scan.{Scan}
use Rattle.wat_scans.specs.declared.scan.Seen.{Seen}
use Rattle.wat_scans.specs.declared.scan.Taken.{Taken}
use Rattle.wat_scans.specs.Look.{RowsFit}
use Rattle.wat_scans.specs.Recorded.{index_of_step, AreTaken}
use Rattle.wat_scans.specs.Running.{defs_of}
use Rattle.wat_scans.specs.Scans.{Progress, rows_taken, where_at, resumed, tested, began, entered_at, entered, begun, moved, visited_at, visited_place, visited}
use Rattle.wat_scans.proofs.Rows.{get_within, get_none, taken_at, depth_of, step_listing, agrees_itself}
use Rattle.wat_tied.specs.Tied.{IsMeeting}

abbrev pub MeetsSo : ScanPlan → Option Progress → Type 0
MeetsSo p None = Unit {0}
MeetsSo p (Some w) = IsMeeting p w

range_long : (k n : ℕ) → length (range_with_len k n) ≡ n
range_long k zero = refl
range_long k (suc n) = ap suc (range_long (k + 1) n)

mapped_long : {A B : Type 0} (f : A → B) (xs : List A) → length (map f xs) ≡ length xs
mapped_long f [] = refl
mapped_long f (x ∷ xs) = ap suc (mapped_long f xs)

-- a combination that has a fitting row of each table
fits_each : (ls : List Listing) (d : Combination) → length d ≡ length ls → ((j : ℕ) (l : Listing) → slice_get ls j ≡ Some l → (row : Row) × (slice_index_or d j None ≡ Some row) × (fits l.def row ≡ true))
    → combination_fits (map (λ (l : Listing). l.def) ls) d ≡ true
fits_each [] [] long each = refl
fits_each [] (r ∷ d) long each = absurd (omega (arith, long))
fits_each (l ∷ ls) [] long each = absurd (omega (arith, long))
fits_each (l ∷ ls) (None ∷ d) long each = let r = each 0 l refl in absurd (let no : ◌≡◌ {A = Option Row} None (Some r.0) = r.1 in cc)
fits_each (l ∷ ls) (Some row ∷ d) long each =
    let r = each 0 l refl in
    let same : row ≡ r.0 = let both : Some row ≡ Some r.0 = r.1 in cc in
    and_from (fits l.def row) (combination_fits (map (λ (z : Listing). z.def) ls) d) (subst (λ z. fits l.def z ≡ true) (sym same) r.2)
    (fits_each ls d (omega (arith, long)) (λ j m at. each (suc j) m at))

module _ (p : ScanPlan) where
  abbrev pub AllFit : List Taken → Type 0
  AllFit ts = (t : Taken) → Has t ts → fits (listing_of_step p t.scan.step).def t.row ≡ true

  abbrev pub MetFit : List Combination → Type 0
  MetFit met = (d : Combination) → Has d met → combination_fits (defs_of p) d ≡ true

  resumed_meeting : (ts : List Taken) (met : List Combination) → AreTaken p ts → AllFit ts → MetFit met → IsMeeting p (resumed ts met)
  resumed_meeting [] met are fit all = record { at = refl; outside = tt; taken = fit; met = all }
  resumed_meeting (t ∷ ts) met are fit all = record { at = are.0; outside = are.2; taken = λ u m. fit u (inr m); met = all }

  tested_meeting : (o : Outcome) (ts : List Taken) (met : List Combination) (d : Combination) → AreTaken p ts → AllFit ts → MetFit met → combination_fits (defs_of p) d ≡ true → MeetsSo p (tested o ts met d)
  tested_meeting outcome.Error ts met d are fit all here = tt
  tested_meeting outcome.True ts met d are fit all here = resumed_meeting ts (met ++ d ∷ []) are fit (λ x m. ⊎_elim
      (λ (n : Has x met). all x n)
      (λ (n : Has x (d ∷ [])). ⊎_elim (λ (s : d ≡ x). subst (λ z. combination_fits (defs_of p) z ≡ true) s here) (λ n. absurd n) n)
      (has_cases x met (d ∷ []) m))
  tested_meeting (outcome.Is v) ts met d are fit all here = resumed_meeting ts met are fit all
  tested_meeting outcome.False ts met d are fit all here = resumed_meeting ts met are fit all
  tested_meeting outcome.Unknown ts met d are fit all here = resumed_meeting ts met are fit all

  began_meeting : (b : Bool) (step : PlanStep) (i : Interval) (ts : List Taken) (met : List Combination) → AreTaken p ts → AllFit ts → MetFit met
      → slice_get p.steps (length ts) ≡ Some step → i ≡ interval_at p (length ts) (rows_taken p ts) → IsMeeting p (began b step i ts met)
  began_meeting true step i ts met are fit all at is = resumed_meeting ts met are fit all
  began_meeting false step i ts met are fit all at is = record { at = (at, is); outside = are; taken = fit; met = all }

module _ (cat : Catalog) (p : ScanPlan) (ok : ScansEach cat p) where
  complete_fits : (ts : List Taken) → AreTaken p ts → slice_get p.steps (length ts) ≡ None → AllFit p ts → combination_fits (defs_of p) (rows_taken p ts) ≡ true
  complete_fits ts are all fit = fits_each p.sources (rows_taken p ts) (mapped_long _ (range_with_len 0 (length p.sources)) ∙ range_long 0 (length p.sources)) each
    where
      each : (j : ℕ) (l : Listing) → slice_get p.sources j ≡ Some l → (row : Row) × (slice_index_or (rows_taken p ts) j None ≡ Some row) × (fits l.def row ≡ true)
      each j l at =
          let a = ok.each j (get_within p.sources j l at) in
          let w : a.0 < length p.steps = get_within p.steps a.0 a.1 a.2 in
          let g : length p.steps ≤ length ts = get_none p.steps (length ts) all in
          let t = taken_at p ts a.0 a.1 are (omega (arith, w, g)) a.2 in
          let of : t.0.scan.step.source ≡ j = ap (λ (z : PlanStep). z.source) t.2 ∙ a.3 in
          let d = depth_of p ts t.0 are t.1 in
          let same : Some (listing_of_step p t.0.scan.step) ≡ Some l = sym (step_listing cat p ok d.0 t.0.scan.step d.2) ∙ (ap (slice_get p.sources) of ∙ at) in
          let is : listing_of_step p t.0.scan.step ≡ l = cc in
          (t.0.row, ap (λ n. slice_index_or (rows_taken p ts) n None) (sym of) ∙ agrees_itself cat p ok ts are t.0 t.1, subst (λ (z : Listing). fits z.def t.0.row ≡ true) is (fit t.0 t.1))

  entered_meeting : (ts : List Taken) (met : List Combination) → AreTaken p ts → AllFit p ts → MetFit p met → MeetsSo p (entered p ts met)
  entered_meeting ts met are fit all = by (slice_get p.steps (length ts)) refl
    where
      by : (o : Option PlanStep) → slice_get p.steps (length ts) ≡ o → MeetsSo p (entered_at p ts met o)
      by None at = tested_meeting p (where_at p (rows_taken p ts)) ts met (rows_taken p ts) are fit all (complete_fits ts are at fit)
      by (Some step) at = began_meeting p (is_empty (interval_at p (length ts) (rows_taken p ts))) step (interval_at p (length ts) (rows_taken p ts)) ts met are fit all at refl

  pub begun_meeting : MeetsSo p (begun p)
  unfolding begun
  begun_meeting = entered_meeting [] [] tt (λ t m. absurd m) (λ d m. absurd m)

  -- a row that is seen at a key of the step's index
  pub record IsFound (f : RowName → Option Row) (step : PlanStep) (key : List Value) (row : Row) : Type 0 where
    pub values : values_in row (columns_of_step p step) ≡ key
    pub fit : fits (listing_of_step p step).def row ≡ true
    pub stands : f (row_name (listing_of_step p step).def row) ≡ Some row
    pub name : owner_in cat (index_of_step p step) key ≡ row_name (listing_of_step p step).def row

  pub found : (f : RowName → Option Row) → RowsFit cat f → (depth : ℕ) (step : PlanStep) → slice_get p.steps depth ≡ Some step → (key : List Value) (row : Row) → Lookup sql (scheme_of cat) (index_of_step p step) f key row → IsFound f step key row
  found f fit depth step at key row looked = record { values = is_key; fit = (fit (row_name (listing_of_step p step).def row) (listing_of_step p step) row known stands).0; stands = stands; name = name }
    where
      known : Rattle.wat_schema.specs.Catalog.listing_at cat (listing_of_step p step).def.number ≡ Some (listing_of_step p step)
      known = ok.known step.source (listing_of_step p step) (step_listing cat p ok depth step at)

      parts : KeyOf cat (index_of_step p step) (owner_in cat (index_of_step p step) key) row key
      parts = key_parts cat (index_of_step p step) (owner_in cat (index_of_step p step) key) row key looked.1

      same_listing : parts.listing ≡ listing_of_step p step
      same_listing = let a : Some parts.listing ≡ Some (listing_of_step p step) = sym parts.stands ∙ known in cc

      is_key : values_in row (columns_of_step p step) ≡ key
      is_key = ap (λ (z : Listing). index_key z.def z.indexes step.index row) (sym same_listing) ∙ parts.key

      name : owner_in cat (index_of_step p step) key ≡ row_name (listing_of_step p step).def row
      name =
          let primary : key_of (listing_of_step p step).def row ≡ (owner_in cat (index_of_step p step) key).key = ap (λ (z : Listing). key_of z.def row) (sym same_listing) ∙ parts.primary in
          λ i. record { table = sym parts.table i; key = sym primary i }

      stands : f (row_name (listing_of_step p step).def row) ≡ Some row
      stands = ap f (sym name) ∙ looked.0

  pub visited_meeting : (s : Scan) (ts : List Taken) (met : List Combination) (seen : Seen) → IsMeeting p (record { scan = Some s; taken = ts; met = met }) → (f : RowName → Option Row)
      → ((key : List Value) (row : Row) → seen.place ≡ At key → seen.row ≡ Some row → is_below s.interval.upper key ≡ true → IsFound f s.step key row) → MeetsSo p (visited p s ts met seen)
  unfolding visited
  visited_meeting s ts met seen k f sees = by seen.row refl seen.place refl
    where
      taking : (key : List Value) (row : Row) → IsFound f s.step key row → MeetsSo p (entered p (record { scan = moved s key; row = row } ∷ ts) met)
      taking key row here = entered_meeting (record { scan = moved s key; row = row } ∷ ts) met ((k.at.0, k.at.1), ap Excluding (sym here.values), k.outside) all k.met
        where
          all : AllFit p (record { scan = moved s key; row = row } ∷ ts)
          all t (inl e) = subst (λ (z : Taken). fits (listing_of_step p z.scan.step).def z.row ≡ true) e here.fit
          all t (inr m) = k.taken t m

      inside : (row : Option Row) → seen.row ≡ row → (key : List Value) → seen.place ≡ At key → (b : Bool) → is_below s.interval.upper key ≡ b → MeetsSo p (if b then visited_at p s ts met key row else Some (resumed ts met))
      inside row here key at false low = resumed_meeting p ts met k.outside k.taken k.met
      inside None here key at true low = record { at = k.at; outside = k.outside; taken = k.taken; met = k.met }
      inside (Some row) here key at true low = taking key row (sees key row at here low)

      by : (row : Option Row) → seen.row ≡ row → (place : Place) → seen.place ≡ place → MeetsSo p (visited_place p s ts met row place)
      by row here End at = resumed_meeting p ts met k.outside k.taken k.met
      by row here (At key) at = inside row here key at (is_below s.interval.upper key) refl
