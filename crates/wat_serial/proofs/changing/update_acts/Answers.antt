use Rattle.std.proofs.Common.{◌≡◌, ℕ, List, [], ◌∷◌, ◌++◌, ◌⊎◌, inl, inr, refl, sym, ap, ◌∙◌, append-nil}
use Rattle.std.proofs.lemmas.Slice.Zip.{either_empty_from_Zip}
use Rattle.wat_expr.specs.Evaluation.{Combination}
use Rattle.wat_group.specs.Query.{Row}
use Rattle.wat_serial.specs.Changing.{update_acts}
use Rattle.wat_serial.proofs.changing.update_acts.Goals as goal

none_left : (n : ℕ) (met : List Combination) (after : List Row) → (met ≡ []) ⊎ (after ≡ []) → update_acts n met after ≡ []
none_left n [] after ends = refl
none_left n (rows ∷ met) [] ends = refl
none_left n (rows ∷ met) (row ∷ after) (inl e) = cc
none_left n (rows ∷ met) (row ∷ after) (inr e) = cc

pub returns : goal.returns
returns c =
    let ends = either_empty_from_Zip c.loop-rows.rows-iterator c.next.new.self c.next.result c.in-None.is c.next.ensures.steps in
    sym (append-nil c.loop-rows.acts) ∙ sym (ap (λ more. c.loop-rows.acts ++ more) (none_left _ _ _ ends)) ∙ c.loop-rows.invariant
