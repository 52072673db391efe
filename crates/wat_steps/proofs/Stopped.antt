-- What a step after a stop leaves.
use Rattle.std.proofs.Common.{◌≡◌, ℕ, true, List, [], ◌∷◌, Option, Some, sym, ap, subst, ◌∙◌}
use Rattle.wat_list.specs.Has.{HasSame}
use Rattle.wat_parse.specs.declared.script.Span.{Span}
use Rattle.wat_conn.specs.declared.answer.Reason.{Reason}
use Rattle.wat_steps.specs.State.{ConnectionState, CoreState, Progressed, with_connection}
use Rattle.wat_conn.specs.declared.answer.Answer.TheVariants.{Stopped}
use Rattle.wat_steps.specs.Answering.{IsSame, with_answer}
use Rattle.wat_steps.specs.Step.{Stays, GoesOrStops, IsStep}

-- one connection's state may be another; nothing else is
abbrev pub HasStopped : CoreState → Reason → CoreState → Type 0
HasStopped e reason after = (after.now ≡ e.now) × (after.committed ≡ e.committed) × HasSame after.held e.held × HasSame after.vacant e.vacant × (after.moments ≡ e.moments) × (after.stop ≡ Some reason)

of_one : (e after : CoreState) (c : ℕ) (k : ConnectionState) (reason : Reason) → e.stop ≡ Some reason → IsSame (with_connection c k e) after → HasStopped e reason after
of_one e after c k reason stopped same =
    let others = sym same.others in
    (ap (λ (x : CoreState). x.now) others, ap (λ (x : CoreState). x.committed) others, same.held, same.vacant, ap (λ (x : CoreState). x.moments) others, ap (λ (x : CoreState). x.stop) others ∙ stopped)

stays : (e after : CoreState) (c : ℕ) (a : Progressed) (reason : Reason) (left : List Span) → e.stop ≡ Some reason → Stays c e reason left a after → HasStopped e reason after
stays e after c a reason [] stopped h = of_one e after c (record (e.connections c) { has_ended = true }) reason stopped h.1
stays e after c a reason (span ∷ more) stopped h = of_one e after c (with_answer (span ∷ more) (e.connections c) (Stopped reason) []) reason stopped h.1

pub has_stopped : (e after : CoreState) (c : ℕ) (a : Progressed) (reason : Reason) → e.stop ≡ Some reason → IsStep e c a after → HasStopped e reason after
unfolding IsStep
has_stopped e after c a reason stopped step = stays e after c a reason (e.connections c).left stopped (subst (λ (stop : Option Reason). GoesOrStops c e stop a after) stopped step)
