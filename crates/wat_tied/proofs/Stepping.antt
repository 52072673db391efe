-- Every step leaves the core tied, and so does every list of steps.
use Rattle.std.proofs.Common.{◌≡◌, ℕ, List, [], ◌∷◌, Option, Some, None, refl, sym, ap, ◌∙◌, subst, inl, inr}
use Rattle.wat_schema.specs.Tables.{Tables, IsTables}
use Rattle.wat_parse.specs.declared.script.Span.{Span}
use Rattle.wat_conn.specs.declared.answer.Reason.{Reason}
use Rattle.wat_scans.specs.Running.{Run}
use Rattle.wat_steps.specs.State.{CoreState, Progressed}
use Rattle.wat_steps.specs.Fresh.{fresh}
use Rattle.wat_steps.specs.Step.{Goes, GoesOrStops, IsStep, Runs}
use Rattle.wat_tied.specs.Tied.{IsTied}
use Rattle.wat_tied.proofs.Bases.{step_base}
use Rattle.wat_tied.proofs.Beginning.{begins}
use Rattle.wat_tied.proofs.Goes.{works_tied}
use Rattle.wat_tied.proofs.Starting.{script_ends, reads}
use Rattle.wat_tied.proofs.Stopped.{stopped_tied, stops_tied}

module _ (e after : CoreState) (c : ℕ) (a : Progressed) (tied : IsTied e) where
  goes_tied : e.stop ≡ None → (work : Option Run) → (e.connections c).work ≡ work → (left : List Span) → (e.connections c).left ≡ left → Goes c e work left a after → IsTied after
  goes_tied going (Some run) at left has h = works_tied e after c a run tied going at h
  goes_tied going None at [] has h = script_ends e after c tied going at has h.1
  goes_tied going None at (span ∷ more) has h = reads e after c tied going at span more has a h

  pub step_tied : IsStep e c a after → IsTied after
  unfolding IsStep
  step_tied step = by e.stop refl step
    where
      by : (stop : Option Reason) → e.stop ≡ stop → GoesOrStops c e stop a after → IsTied after
      by (Some reason) at h = stopped_tied e after c a reason tied at step
      by None at (inl h) = goes_tied at (e.connections c).work refl (e.connections c).left refl h
      by None at (inr h) = stops_tied e after c a h.0 tied h.1

pub runs_tied : (e : CoreState) → IsTied e → (cs : List ℕ) (last : CoreState) → Runs e cs last → IsTied last
runs_tied e tied [] last runs = subst IsTied runs tied
runs_tied e tied (c ∷ cs) last runs = runs_tied runs.1 (step_tied e runs.1 c runs.0 tied runs.2) cs last runs.3

pub sessions_tied : (base : Tables) (scripts : List (List ℕ)) → IsTables base → (cs : List ℕ) (last : CoreState) → Runs (fresh base scripts) cs last → IsTied last
sessions_tied base scripts tables cs last runs = runs_tied (fresh base scripts) (begins base scripts tables) cs last runs

runs_base : (e : CoreState) (cs : List ℕ) (last : CoreState) → Runs e cs last → last.base ≡ e.base
runs_base e [] last runs = ap (λ (z : CoreState). z.base) (sym runs)
runs_base e (c ∷ cs) last runs = runs_base runs.1 cs last runs.3 ∙ step_base e runs.1 c runs.0 runs.2

pub session_base : (base : Tables) (scripts : List (List ℕ)) (cs : List ℕ) (last : CoreState) → Runs (fresh base scripts) cs last → last.base ≡ base
unfolding fresh
session_base base scripts cs last runs = runs_base (fresh base scripts) cs last runs
