use Rattle.std.proofs.Common.{◌≡◌, true, false, sym, ap, ap₂, ◌∙◌}
use Rattle.std.specs.Ordering.{is_eq}
use Rattle.wat_isolation.specs.Naming.{same_key}
use Rattle.wat_exec.specs.Making.{moved_from}
use Rattle.wat_exec.proofs.SpotLemmas.{moved_none, moved_some, same_back}
use Rattle.wat_exec.proofs.spots.moved_keys.Goals as goal

pub returns-then-is_eq-clause-enters : goal.returns-then-is_eq-clause-enters
returns-then-is_eq-clause-enters c =
    let leaves = c.in-Some-Some.leaves in
    let enters = c.in-Some-Some.enters in
    let same : same_key leaves enters ≡ true = ap is_eq (sym c.cmp.ensures) ∙ sym c.is_eq.ensures ∙ c.if-is_eq.true in
    moved_none enters leaves (same_back enters leaves ∙ same) ∙ ap₂ moved_from (sym c.in-Some-Some.is-1) (sym c.in-Some-Some.is-0)

pub returns-else-is_eq-clause-enters : goal.returns-else-is_eq-clause-enters
returns-else-is_eq-clause-enters c =
    let leaves = c.in-Some-Some.leaves in
    let enters = c.in-Some-Some.enters in
    let other : same_key leaves enters ≡ false = ap is_eq (sym c.cmp.ensures) ∙ sym c.is_eq.ensures ∙ c.if-is_eq.false in
    moved_some enters leaves (same_back enters leaves ∙ other) ∙ ap₂ moved_from (sym c.in-Some-Some.is-1) (sym c.in-Some-Some.is-0)
