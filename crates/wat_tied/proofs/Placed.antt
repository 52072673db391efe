-- Each scan under way is one of a step of the plan.
use Rattle.std.proofs.Common.{◌≡◌, ℕ, Bool, true, false, List, [], ◌∷◌, ◌++◌, length, Option, Some, None, refl, ap, ◌∙◌, subst, inl, inr, if◌then◌else◌}
use Rattle.std.specs.Prelude.{slice_get}
use Rattle.wat_list.specs.Has.{Has}
use Rattle.wat_value.specs.declared.value.Value.{Value}
use Rattle.wat_value.specs.declared.bound.Interval.{Interval}
use Rattle.wat_value.specs.declared.place.Place.{Place}
use Rattle.wat_value.specs.declared.place.Place.TheVariants.{At, End}
use Rattle.wat_value.specs.Bounds.{is_below}
use Rattle.wat_schema.specs.Tables.{Row}
use Rattle.wat_expr.specs.declared.outcome.Outcome.{Outcome}
use Rattle.wat_expr.specs.declared.outcome.Outcome.TheVariants as outcome
use Rattle.wat_expr.specs.Evaluation.{Combination}
use Rattle.wat_interval.specs.Intervals.{is_empty}
use Rattle.wat_plan.specs.declared.choice.PlanStep.{PlanStep}
use Rattle.wat_plan.specs.Plans.{ScanPlan, interval_at}
use Rattle.wat_scans.specs.declared.scan.Scan.{Scan}
use Rattle.wat_scans.specs.declared.scan.Seen.{Seen}
use Rattle.wat_scans.specs.declared.scan.Taken.{Taken}
use Rattle.wat_scans.specs.Scans.{resumed, tested, began, entered_at, entered, begun, moved, visited_at, visited_place, visited, rows_taken, where_at}
use Rattle.wat_tied.specs.Tied.{IsOfStep, AreOfSteps, ArePlaced}

abbrev All : ScanPlan → List Taken → Type 0
All p ts = (t : Taken) → Has t ts → IsOfStep p t.scan

resumed_placed : (p : ScanPlan) (ts : List Taken) (met : List Combination) → All p ts → AreOfSteps p (resumed ts met)
resumed_placed p [] met all = record { scan = λ s e. cc; taken = λ t h. absurd h }
resumed_placed p (t ∷ ts) met all = record {
  scan = λ s e. let same : t.scan ≡ s = cc in subst (λ (z : Scan). IsOfStep p z) same (all t (inl refl));
  taken = λ u h. all u (inr h);
}

tested_placed : (p : ScanPlan) (o : Outcome) (ts : List Taken) (met : List Combination) (c : Combination) → All p ts → ArePlaced p (tested o ts met c)
tested_placed p outcome.Error ts met c all = tt
tested_placed p outcome.True ts met c all = resumed_placed p ts (met ++ c ∷ []) all
tested_placed p (outcome.Is v) ts met c all = resumed_placed p ts met all
tested_placed p outcome.False ts met c all = resumed_placed p ts met all
tested_placed p outcome.Unknown ts met c all = resumed_placed p ts met all

began_placed : (p : ScanPlan) (b : Bool) (step : PlanStep) (i : Interval) (ts : List Taken) (met : List Combination) → All p ts → (depth : ℕ) → slice_get p.steps depth ≡ Some step → AreOfSteps p (began b step i ts met)
began_placed p true step i ts met all depth at = resumed_placed p ts met all
began_placed p false step i ts met all depth at = record {
  scan = λ s e. let same : step ≡ s.step = cc in (depth, at ∙ ap Some same);
  taken = all;
}

entered_placed : (p : ScanPlan) (ts : List Taken) (met : List Combination) → All p ts → ArePlaced p (entered p ts met)
entered_placed p ts met all = by (slice_get p.steps (length ts)) refl
  where
    by : (o : Option PlanStep) → slice_get p.steps (length ts) ≡ o → ArePlaced p (entered_at p ts met o)
    by None at = tested_placed p (where_at p (rows_taken p ts)) ts met (rows_taken p ts) all
    by (Some step) at = let i = interval_at p (length ts) (rows_taken p ts) in began_placed p (is_empty i) step i ts met all (length ts) at

pub begun_placed : (p : ScanPlan) → ArePlaced p (begun p)
unfolding begun
begun_placed p = entered_placed p [] [] (λ t h. absurd h)

module _ (p : ScanPlan) (s : Scan) (ts : List Taken) (met : List Combination) (here : IsOfStep p s) (all : All p ts) where
  at_placed : (key : List Value) (row : Option Row) → ArePlaced p (visited_at p s ts met key row)
  at_placed key None = record {
    scan = λ z e. let same : s.step ≡ z.step = cc in (here.0, here.1 ∙ ap Some same);
    taken = all;
  }
  at_placed key (Some row) = entered_placed p (record { scan = moved s key; row = row } ∷ ts) met by
    where
      by : All p (record { scan = moved s key; row = row } ∷ ts)
      by t (inl e) = subst (λ (z : Taken). IsOfStep p z.scan) e here
      by t (inr h) = all t h

  place_placed : (row : Option Row) (place : Place) → ArePlaced p (visited_place p s ts met row place)
  place_placed row End = resumed_placed p ts met all
  place_placed row (At key) = by (is_below s.interval.upper key)
    where
      by : (b : Bool) → ArePlaced p (if b then visited_at p s ts met key row else Some (resumed ts met))
      by true = at_placed key row
      by false = resumed_placed p ts met all

pub visited_placed : (p : ScanPlan) (s : Scan) (ts : List Taken) (met : List Combination) (seen : Seen) → AreOfSteps p (record { scan = Some s; taken = ts; met = met }) → ArePlaced p (visited p s ts met seen)
unfolding visited
visited_placed p s ts met seen placed = place_placed p s ts met (placed.scan s refl) placed.taken seen.row seen.place
