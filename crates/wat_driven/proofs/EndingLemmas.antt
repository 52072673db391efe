-- Each visit goes on past a key, or ends a scan; so the visits that are left grow fewer. And so do the changes.
use Rattle.std.proofs.Common.{◌≡◌, ◌≤◌, ◌<◌, ℕ, zero, suc, ◌+◌, ◌*◌, ◌-◌, Bool, true, false, cond, if◌then◌else◌, not, List, [], ◌∷◌, ◌++◌, length, drop, Option, Some, None, Result, Ok, Err, refl, sym, ap, ◌∙◌, subst, inl, inr, arith}
use Rattle.std.specs.Prelude.{slice_get}
use Rattle.std.specs.List.{filter}
use Rattle.std.specs.Ordering.{is_gt, is_lt}
use Rattle.std.proofs.lemmas.Bool.{both_ways}
use Rattle.std.proofs.Math.Nat.{mul-le-mul_right}
use Rattle.wat_list.specs.Has.{Has}
use Rattle.wat_value.specs.declared.value.Value.{Value}
use Rattle.wat_value.specs.declared.bound.Bound.{Bound}
use Rattle.wat_value.specs.declared.bound.Bound.TheVariants.{Excluding}
use Rattle.wat_value.specs.declared.bound.Interval.{Interval}
use Rattle.wat_value.specs.declared.change.Change.{Change}
use Rattle.wat_value.specs.declared.place.Place.{Place}
use Rattle.wat_value.specs.declared.place.Place.TheVariants.{At, End}
use Rattle.wat_value.specs.Bounds.{is_above, is_below}
use Rattle.wat_value.specs.Changes.{RowName}
use Rattle.wat_value.specs.Order.{key_cmp}
use Rattle.wat_value.specs.OrderLaws.{key_cmp_refl, key_cmp_total}
use Rattle.wat_value.proofs.FitsLemmas.{drop_at}
use Rattle.wat_schema.specs.declared.refusal.Refusal.{Refusal}
use Rattle.wat_schema.specs.Catalog.{Catalog}
use Rattle.wat_schema.specs.Tables.{Row}
use Rattle.wat_expr.specs.declared.outcome.Outcome.{Outcome}
use Rattle.wat_expr.specs.declared.outcome.Outcome.TheVariants as outcome
use Rattle.wat_expr.specs.Evaluation.{Combination}
use Rattle.wat_meaning.specs.declared.reply.Reply.{Reply}
use Rattle.wat_meaning.specs.Meaning.{Made, Made.Altering, Made.Changing, Made.Shown}
use Rattle.wat_isolation.specs.Sql.{IndexName}
use Rattle.wat_index.proofs.Cuts.{before_bound, not_behind, reversed_lt}
use Rattle.wat_interval.specs.Intervals.{is_empty}
use Rattle.wat_plan.specs.declared.choice.PlanStep.{PlanStep}
use Rattle.wat_plan.specs.Plans.{ScanPlan, interval_at}
use Rattle.wat_scans.specs.declared.scan.Scan.{Scan}
use Rattle.wat_scans.specs.declared.scan.Seen.{Seen}
use Rattle.wat_scans.specs.declared.scan.Taken.{Taken}
use Rattle.wat_scans.specs.Recorded.{index_of_step}
use Rattle.wat_ast.specs.declared.statement.Statement.{Statement}
use Rattle.wat_scans.specs.Running.{Run, Task, Next, Next.ToChange, Next.ToVisit, after_change, after_visit, begin, change_next, made_by, made_next, next, progress_next, scanned_next, task_of}
use Rattle.wat_scans.specs.Scans.{Progress, began, begun, entered, entered_at, moved, resumed, rows_taken, tested, visited, visited_at, visited_place, where_at}
use Rattle.wat_scans.specs.Sources.{IsSeen}
use Rattle.wat_driven.specs.Ending.{Keys, HasPositions, visits_over, visits_of, ahead, visits_in, visits_outside, visits_under, visits_at, visits_left, changes_in, changes_at, changes_left}
use Rattle.wat_exec.proofs.KeptLemmas.{to_visit}

-- ---- fewer of a list

fewer_here : {A : Type 0} (a b : Bool) (x : A) (ps qs : List A) → (b ≡ true → a ≡ true) → length qs ≤ length ps → length (cond b (x ∷ qs) qs) ≤ length (cond a (x ∷ ps) ps)
fewer_here true true x ps qs to h = omega (arith, h)
fewer_here true false x ps qs to h = omega (arith, h)
fewer_here false true x ps qs to h = absurd (both_ways false refl (to refl))
fewer_here false false x ps qs to h = h

less_here : {A : Type 0} (a b : Bool) (x : A) (ps qs : List A) → (b ≡ true → a ≡ true) → length qs < length ps → length (cond b (x ∷ qs) qs) < length (cond a (x ∷ ps) ps)
less_here true true x ps qs to h = omega (arith, h)
less_here true false x ps qs to h = omega (arith, h)
less_here false true x ps qs to h = absurd (both_ways false refl (to refl))
less_here false false x ps qs to h = h

-- what fewer keys pass
filter_fewer : {A : Type 0} (p q : A → Bool) → ((x : A) → q x ≡ true → p x ≡ true) → (xs : List A) → length (filter q xs) ≤ length (filter p xs)
filter_fewer p q to [] = omega arith
filter_fewer p q to (x ∷ xs) = fewer_here (p x) (q x) x (filter p xs) (filter q xs) (to x) (filter_fewer p q to xs)

left_here : {A : Type 0} (a b : Bool) (x : A) (ps qs : List A) → a ≡ true → b ≡ false → length qs ≤ length ps → length (cond b (x ∷ qs) qs) < length (cond a (x ∷ ps) ps)
left_here true true x ps qs on off h = absurd (both_ways true off refl)
left_here true false x ps qs on off h = omega (arith, h)
left_here false b x ps qs on off h = absurd (both_ways false refl on)

-- and one of those that passed does not
filter_less : {A : Type 0} (p q : A → Bool) → ((x : A) → q x ≡ true → p x ≡ true) → (y : A) → p y ≡ true → q y ≡ false → (xs : List A) → Has y xs → length (filter q xs) < length (filter p xs)
filter_less p q to y on off [] has = absurd has
filter_less p q to y on off (x ∷ xs) (inl e) = left_here (p x) (q x) x (filter p xs) (filter q xs) (ap p e ∙ on) (ap q e ∙ off) (filter_fewer p q to xs)
filter_less p q to y on off (x ∷ xs) (inr has) = less_here (p x) (q x) x (filter p xs) (filter q xs) (to x) (filter_less p q to y on off xs has)

within_here : {A : Type 0} (a : Bool) (x : A) (ps xs : List A) → length ps ≤ length xs → length (cond a (x ∷ ps) ps) ≤ length (x ∷ xs)
within_here true x ps xs h = omega (arith, h)
within_here false x ps xs h = omega (arith, h)

filter_within : {A : Type 0} (p : A → Bool) (xs : List A) → length (filter p xs) ≤ length xs
filter_within p [] = omega arith
filter_within p (x ∷ xs) = within_here (p x) x (filter p xs) xs (filter_within p xs)

-- ---- the keys ahead

not_false : (b : Bool) → (b ≡ false → ⊥) → b ≡ true
not_false true off = refl
not_false false off = absurd (off refl)

-- a key behind one that is above a bound is above it
above_behind : (from : Bound) (key x : List Value) → is_above from key ≡ true → is_above (Excluding key) x ≡ true → is_above from x ≡ true
above_behind from key x above behind =
    let greater : is_gt (key_cmp x key) ≡ true = not_false (is_gt (key_cmp x key)) (λ no. both_ways (is_above (Excluding key) x) (not_behind key x no) behind) in
    let less : is_lt (key_cmp key x) ≡ true = sym (reversed_lt (key_cmp key x)) ∙ (ap is_gt (sym (key_cmp_total.antisymm x key)) ∙ greater) in
    not_false (is_above from x) (λ no. both_ways (is_above from key) (before_bound from key x less no) above)

-- and no key is behind itself
not_itself : (key : List Value) → is_above (Excluding key) key ≡ false
not_itself key = not_behind key key (ap is_gt (key_cmp_refl key))

-- ---- the visits of a scan

-- with fewer keys ahead
over_fewer : (a b below : ℕ) → a ≤ b → visits_over a below ≤ visits_over b below
over_fewer a b below h =
    let inner : a * below ≤ b * below = mul-le-mul_right below h in
    omega (arith, h, inner)

-- a key less pays for the scans that its row begins
over_less : (a b below : ℕ) → a < b → below + visits_over a below < visits_over b below
over_less a b below h =
    let inner : suc a * below ≤ b * below = mul-le-mul_right below h in
    let split : suc a * below ≡ a * below + below = Prim.grind arith in
    omega (arith, h, inner, split)

module _ (keys : Keys) (p : ScanPlan) where
  after_resumed : (ts : List Taken) (met : List Combination) → visits_at keys p (Some (resumed ts met)) ≡ visits_outside keys p ts
  after_resumed [] met = refl
  after_resumed (t ∷ ts) met = refl

  after_tested : (o : Outcome) (ts : List Taken) (met : List Combination) (c : Combination) → visits_at keys p (tested o ts met c) ≤ visits_outside keys p ts
  after_tested outcome.Error ts met c = omega arith
  after_tested outcome.True ts met c = let e = after_resumed ts (met ++ c ∷ []) in omega (arith, e)
  after_tested (outcome.Is v) ts met c = let e = after_resumed ts met in omega (arith, e)
  after_tested outcome.False ts met c = let e = after_resumed ts met in omega (arith, e)
  after_tested outcome.Unknown ts met c = let e = after_resumed ts met in omega (arith, e)

  after_began : (empty : Bool) (step : PlanStep) (i : Interval) (ts : List Taken) (met : List Combination) → slice_get p.steps (length ts) ≡ Some step
      → visits_at keys p (Some (began empty step i ts met)) ≤ visits_of keys p (drop (length ts) p.steps) + visits_outside keys p ts
  after_began true step i ts met at = let e = after_resumed ts met in omega (arith, e)
  after_began false step i ts met at =
      let below = visits_of keys p (drop (length ts + 1) p.steps) in
      let all = keys (index_of_step p step) in
      let fewer : visits_over (length (filter (is_above i.lower) all)) below ≤ visits_over (length all) below = over_fewer (length (filter (is_above i.lower) all)) (length all) below (filter_within (is_above i.lower) all) in
      let split : visits_of keys p (drop (length ts) p.steps) ≡ visits_over (length all) below = ap (visits_of keys p) (drop_at p.steps (length ts) step at) in
      omega (arith, fewer, split)

  after_entered : (ts : List Taken) (met : List Combination) → visits_at keys p (entered p ts met) ≤ visits_of keys p (drop (length ts) p.steps) + visits_outside keys p ts
  after_entered ts met = by (slice_get p.steps (length ts)) refl
    where
      by : (o : Option PlanStep) → slice_get p.steps (length ts) ≡ o → visits_at keys p (entered_at p ts met o) ≤ visits_of keys p (drop (length ts) p.steps) + visits_outside keys p ts
      by None e = let few = after_tested (where_at p (rows_taken p ts)) ts met (rows_taken p ts) in omega (arith, few)
      by (Some step) e = after_began (is_empty (interval_at p (length ts) (rows_taken p ts))) step (interval_at p (length ts) (rows_taken p ts)) ts met e

  -- ---- a visit

  module _ (s : Scan) (ts : List Taken) (met : List Combination) where
    past : visits_at keys p (Some (resumed ts met)) < visits_in keys p s ts + visits_outside keys p ts
    past = let e = after_resumed ts met in omega (arith, e)

    abbrev below : ℕ
    below = visits_of keys p (drop (length ts + 1) p.steps)

    -- the keys ahead of a scan behind a key
    behind_key : (key : List Value) → is_above s.from key ≡ true → Has key (keys (index_of_step p s.step)) → ahead keys p (moved s key) < ahead keys p s
    behind_key key above has =
        filter_less (is_above s.from) (is_above (Excluding key)) (λ x behind. above_behind s.from key x above behind) key above (not_itself key) (keys (index_of_step p s.step)) has

    inside : (key : List Value) (row : Option Row) → is_above s.from key ≡ true → Has key (keys (index_of_step p s.step))
        → visits_at keys p (visited_at p s ts met key row) < visits_in keys p s ts + visits_outside keys p ts
    inside key None above has =
        let less = over_less (ahead keys p (moved s key)) (ahead keys p s) below (behind_key key above has) in
        omega (arith, less)
    inside key (Some row) above has =
        let t : Taken = record { scan = moved s key; row = row } in
        let less : below + visits_over (ahead keys p (moved s key)) below < visits_over (ahead keys p s) below = over_less (ahead keys p (moved s key)) (ahead keys p s) below (behind_key key above has) in
        let few = after_entered (t ∷ ts) met in
        let same : visits_of keys p (drop (length (t ∷ ts)) p.steps) ≡ below = ap (λ n. visits_of keys p (drop n p.steps)) (let e : suc (length ts) ≡ length ts + 1 = omega arith in e) in
        omega (arith, less, few, same)

    at_place : (place : Place) (row : Option Row) → ((key : List Value) → place ≡ At key → (is_above s.from key ≡ true) × Has key (keys (index_of_step p s.step)))
        → visits_at keys p (visited_place p s ts met row place) < visits_in keys p s ts + visits_outside keys p ts
    at_place End row found = past
    at_place (At key) row found = by (is_below s.interval.upper key)
      where
        by : (b : Bool) → visits_at keys p (if b then visited_at p s ts met key row else Some (resumed ts met)) < visits_in keys p s ts + visits_outside keys p ts
        by true = let f = found key refl in inside key row f.0 f.1
        by false = past

pub visits_fewer : (keys : Keys) (c : Catalog) (rows : RowName → Option Row) (vacant : List (IndexName × List Value)) → HasPositions keys c rows vacant
    → (run : Run) (scan : Scan) (ts : List Taken) (met : List Combination) (seen : Seen) → next run ≡ ToVisit scan ts met → IsSeen c rows vacant (index_of_step run.task.plan scan.step) scan seen
    → visits_left keys (after_visit run scan ts met seen) < visits_left keys run
unfolding next visited visits_left
visits_fewer keys c rows vacant are run scan ts met seen n is =
    let at : run.progress ≡ Some (record { scan = Some scan; taken = ts; met = met }) = to_visit run.task run.made run.progress scan ts met n in
    subst (λ z. visits_at keys run.task.plan (visited_place run.task.plan scan ts met seen.row seen.place) < visits_at keys run.task.plan z) (sym at)
    (at_place keys run.task.plan scan ts met seen.place seen.row (λ key e. found seen.place is.first key e))
  where
    found : (place : Place) → Rattle.wat_value.specs.Bounds.IsFirstFrom (Rattle.wat_scans.specs.Sources.IsPosition c rows vacant (index_of_step run.task.plan scan.step)) scan.from place
        → (key : List Value) → place ≡ At key → (is_above scan.from key ≡ true) × Has key (keys (index_of_step run.task.plan scan.step))
    found End first key e = cc
    found (At other) first key e = let same : other ≡ key = cc in subst (λ z. (is_above scan.from z ≡ true) × Has z (keys (index_of_step run.task.plan scan.step))) same (first.0, are (index_of_step run.task.plan scan.step) other first.1)

-- before its first step
pub visits_first : (keys : Keys) (c : Catalog) (level : ℕ) (s : Statement) → visits_left keys (begin c level s) ≤ visits_of keys (task_of c s).plan (task_of c s).plan.steps
unfolding begin begun visits_left
visits_first keys c level s = let few = after_entered keys (task_of c s).plan [] [] in omega (arith, few)

-- ---- changes

nothing_left : {A : Type 0} (n : ℕ) (x : A) (more : List A) → drop {A = A} n [] ≡ x ∷ more → ⊥
nothing_left zero x more e = cc
nothing_left (suc n) x more e = cc

some_left : {A : Type 0} (n : ℕ) (xs : List A) (x : A) (more : List A) → drop n xs ≡ x ∷ more → n < length xs
some_left n [] x more e = absurd (nothing_left n x more e)
some_left zero (y ∷ xs) x more e = omega arith
some_left (suc n) (y ∷ xs) x more e = let less = some_left n xs x more e in omega (arith, less)

length_more : {A : Type 0} (xs : List A) (x : A) → length (xs ++ x ∷ []) ≡ length xs + 1
length_more [] x = refl
length_more (y ∷ xs) x = let more = length_more xs x in omega (arith, more)

change_left : (made : List Change) (what : Result Made Refusal) (change : Change) → made_next made what ≡ ToChange change → length made < changes_in what
change_left made (Err refusal) change e = cc
change_left made (Ok (Shown rows)) change e = cc
change_left made (Ok (Altering reply alteration)) change e = cc
change_left made (Ok (Changing reply changes)) change e = by (drop (length made) changes) refl e
  where
    by : (left : List Change) → drop (length made) changes ≡ left → change_next reply left ≡ ToChange change → length made < length changes
    by [] d k = cc
    by (x ∷ more) d k = some_left (length made) changes x more d

left_less : (a m n : ℕ) → m < a → n ≡ m + 1 → a - n < a - m
left_less a m n h e = omega (arith, h, e)

pub changes_fewer : (run : Run) (change : Change) → next run ≡ ToChange change → changes_left (after_change run change) < changes_left run
unfolding next changes_left
changes_fewer run change e = by run.progress refl e
  where
    scanned : (w : Progress) (scan : Option Scan) → scanned_next run.task run.made w scan ≡ ToChange change → length run.made < changes_in (made_by run.task w.met run.task.statement)
    scanned w (Some s) k = cc
    scanned w None k = change_left run.made (made_by run.task w.met run.task.statement) change k

    by : (o : Option Progress) → run.progress ≡ o → progress_next run.task run.made o ≡ ToChange change → changes_at (after_change run change) run.progress < changes_at run run.progress
    by None at k = cc
    by (Some w) at k =
        subst (λ z. changes_at (after_change run change) z < changes_at run z) (sym at)
        (left_less (changes_in (made_by run.task w.met run.task.statement)) (length run.made) (length (run.made ++ change ∷ [])) (scanned w w.scan k) (length_more run.made change))
