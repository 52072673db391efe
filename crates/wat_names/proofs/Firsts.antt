-- The first refusal of lists that are joined, and of a list that is made item by item.
use Rattle.std.proofs.Common.{◌≡◌, ℕ, ◌+◌, ◌<◌, ◌≤◌, length, get_or, List, [], ◌∷◌, ◌++◌, drop, Some, None, refl, ap, sym, ◌∙◌}
use Rattle.std.specs.List.{flat_map}
use Rattle.std.specs.Option.{option_or}
use Rattle.std.proofs.lemmas.List.{drop_more, drop_all}
use Rattle.wat_names.specs.Refusals.{first}

pub first-append : {X : Type 0} (xs ys : List X) → first (xs ++ ys) ≡ option_or (first xs) (first ys)
first-append [] ys = refl
first-append (x ∷ xs) ys = refl

-- the rest of a list, behind an item for which nothing is refused
pub first_passed : {X A : Type 0} (f : X → List A) (xs : List X) (i : ℕ) (x : X) → i < length xs → x ≡ get_or xs i x → None ≡ first (f x)
    → first (flat_map f (drop i xs)) ≡ first (flat_map f (drop (i + 1) xs))
first_passed f xs i x within is passes =
    ap (λ rest. first (flat_map f rest)) (drop_more xs i x within) ∙ (ap (λ y. first (f y ++ flat_map f (drop (i + 1) xs))) (sym is)
    ∙ (first-append (f x) (flat_map f (drop (i + 1) xs)) ∙ ap (λ o. option_or o (first (flat_map f (drop (i + 1) xs)))) (sym passes)))

-- the item for which something is refused first
pub first_refused : {X A : Type 0} (f : X → List A) (xs : List X) (i : ℕ) (x : X) (a : A) → i < length xs → x ≡ get_or xs i x → Some a ≡ first (f x)
    → first (flat_map f (drop i xs)) ≡ Some a
first_refused f xs i x a within is refused =
    ap (λ rest. first (flat_map f rest)) (drop_more xs i x within) ∙ (ap (λ y. first (f y ++ flat_map f (drop (i + 1) xs))) (sym is)
    ∙ (first-append (f x) (flat_map f (drop (i + 1) xs)) ∙ ap (λ o. option_or o (first (flat_map f (drop (i + 1) xs)))) (sym refused)))

-- nothing is left of a list that is passed
pub first_done : {X A : Type 0} (f : X → List A) (xs : List X) (i : ℕ) → length xs ≤ i → first (flat_map f (drop i xs)) ≡ None
first_done f xs i past = ap (λ rest. first (flat_map f rest)) (drop_all i xs past)

pub ruleset firsts = (first-append)
