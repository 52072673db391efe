use Rattle.std.proofs.Common.{◌≡◌, List, [], ◌∷◌, ◌++◌, ◌⊎◌, map, inl, inr, refl, sym, ap, ◌∙◌, append-nil}
use Rattle.std.specs.List.{zip}
use Rattle.std.proofs.lemmas.Slice.Zip.{either_empty_from_Zip}
use Rattle.wat_value.specs.declared.change.Change.{Change}
use Rattle.wat_expr.specs.Evaluation.{Combination}
use Rattle.wat_group.specs.Query.{Row}
use Rattle.wat_changing.proofs.updating.updates.Goals as goal

none_left : (f : Combination × Row → Change) (met : List Combination) (after : List Row) → (met ≡ []) ⊎ (after ≡ []) → map f (zip met after) ≡ []
none_left f [] after ends = refl
none_left f (rows ∷ met) [] ends = refl
none_left f (rows ∷ met) (row ∷ after) (inl e) = cc
none_left f (rows ∷ met) (row ∷ after) (inr e) = cc

pub returns : goal.returns
returns c =
    let ends = either_empty_from_Zip c.loop-rows.rows-iterator c.next.new.self c.next.result c.in-None.is c.next.ensures.steps in
    sym (append-nil c.loop-rows.changes.items) ∙ sym (ap (λ more. c.loop-rows.changes.items ++ more) (none_left _ _ _ ends)) ∙ c.loop-rows.invariant
