-- A step of a connection that there isn't.
use Rattle.std.proofs.Common.{◌≡◌, ℕ, List, [], Option, Some, None, inl, inr, refl, sym, ap, subst, ◌∙◌}
use Rattle.wat_schema.specs.Tables.{Tables}
use Rattle.wat_conn.specs.declared.answer.Reason.{Reason}
use Rattle.wat_steps.specs.State.{ConnectionState, CoreState, Progressed, Progressed.Ended}
use Rattle.wat_steps.specs.Fresh.{script_of, connection_with, fresh}
use Rattle.wat_steps.specs.Answering.{rolled_back_from}
use Rattle.wat_steps.specs.Step.{GoesOrStops, Goes, Stays, closed, IsStep}

abbrev nothing_left : ConnectionState
nothing_left = connection_with None

-- what a step is by what the connection has: a step that ends it, or a stop that finds nothing left
ends : (e after : CoreState) (c : ℕ) (a : Progressed) → e.stop ≡ None → e.connections c ≡ nothing_left → IsStep e c a after → (a ≡ Ended) × (after.now ≡ e.now)
unfolding IsStep
ends e after c a running is step = by (subst (λ (stop : Option Reason). GoesOrStops c e stop a after) running step)
  where
    goes : Goes c e None [] a after → (a ≡ Ended) × (after.now ≡ e.now)
    goes h = (h.0, ap (λ (x : CoreState). x.now) (sym h.1.others) ∙ unmoved)
      where
        unmoved : (closed c e).now ≡ e.now
        unmoved = ap (λ (k : ConnectionState). (rolled_back_from c k.transaction e).now) is

    stays : (reason : Reason) → Stays c (record e { stop = Some reason }) reason [] a after → (a ≡ Ended) × (after.now ≡ e.now)
    stays reason h = (h.0, ap (λ (x : CoreState). x.now) (sym h.1.others))

    by : GoesOrStops c e None a after → (a ≡ Ended) × (after.now ≡ e.now)
    by (inl h) = goes (subst (λ (k : ConnectionState). Goes c e k.work k.left a after) is h)
    by (inr h) = stays h.0 (subst (λ (k : ConnectionState). Stays c (record e { stop = Some h.0 }) h.0 k.left a after) is h.1)

pub absent : (base : Tables) (scripts : List (List ℕ)) (c : ℕ) (a : Progressed) (after : CoreState) → script_of scripts c ≡ None → IsStep (fresh base scripts) c a after → (a ≡ Ended) × (after.now ≡ base)
unfolding fresh
absent base scripts c a after none step = ends (fresh base scripts) after c a refl (ap connection_with none) step
