-- The first of refusals that come part by part.
use Rattle.std.proofs.Common.{◌≡◌, List, [], ◌∷◌, ◌++◌, Option, Some, None, refl, sym, ap, ◌∙◌}
use Rattle.wat_names.specs.Refusals.{first}

module _ {X : Type 0} where
  -- a part that has one
  pub first_here : (xs ys : List X) (x : X) → first xs ≡ Some x → first (xs ++ ys) ≡ Some x
  first_here [] ys x h = cc
  first_here (z ∷ zs) ys x h = h

  -- a part that has none
  pub first_later : (xs ys : List X) → first xs ≡ None → first (xs ++ ys) ≡ first ys
  first_later [] ys h = refl
  first_later (z ∷ zs) ys h = cc
