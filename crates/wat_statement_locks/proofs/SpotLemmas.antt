-- Spots that inherit, one after another.
use Rattle.std.proofs.Common.{◌≡◌, ℕ, zero, suc, ◌+◌, ◌<◌, List, [], ◌∷◌, ◌++◌, length, take, drop, get_or, Some, refl, sym, ap, ◌∙◌, subst, arith, length-drop}
use Rattle.std.specs.Prelude.{slice_get, remove}
use Rattle.std.proofs.lemmas.List.{take_more}
use Rattle.wat_locks.specs.declared.held.Held.{Held}
use Rattle.wat_level.specs.declared.change.Spot.{Spot}
use Rattle.wat_statement_locks.specs.Inheriting.{AreInheriting, IsInheriting}

-- one spot more
pub inheriting_push : (held : List Held) (conn table : ℕ) (xs ys : List Spot) (x y : Spot) → AreInheriting held conn table xs ys → IsInheriting held conn table x y → AreInheriting held conn table (xs ++ x ∷ []) (ys ++ y ∷ [])
inheriting_push held conn table [] ys x y are one = (y, [], ap (λ (zs : List Spot). zs ++ y ∷ []) are, one, refl)
inheriting_push held conn table (z ∷ xs) ys x y are one =
    (are.0, are.1 ++ y ∷ [], ap (λ (zs : List Spot). zs ++ y ∷ []) are.2, are.3, inheriting_push held conn table xs are.1 x y are.4 one)

-- the first of those that are left
pub first_left : (xs : List Spot) (i : ℕ) (x : Spot) → slice_get (drop i xs) 0 ≡ Some x → (take (i + 1) xs ≡ take i xs ++ x ∷ []) × (remove (drop i xs) 0 ≡ drop (i + 1) xs)
first_left xs i x is =
    let one : suc i ≡ i + 1 = omega arith in
    let both = by xs i is in
    (ap (λ (n : ℕ). take n xs) (sym one) ∙ both.0, both.1 ∙ ap (λ (n : ℕ). drop n xs) one)
  where
    by : (ys : List Spot) (n : ℕ) → slice_get (drop n ys) 0 ≡ Some x → (take (suc n) ys ≡ take n ys ++ x ∷ []) × (remove (drop n ys) 0 ≡ drop (suc n) ys)
    by [] zero e = absurd (cc)
    by [] (suc n) e = absurd (cc)
    by (y ∷ ys) zero e = (let same : y ≡ x = cc in ap (λ (z : Spot). z ∷ []) same, refl)
    by (y ∷ ys) (suc n) e = let r = by ys n e in (ap (λ (zs : List Spot). y ∷ zs) r.0, r.1)

-- one is left where not all were looked at
pub some_left : (xs left : List Spot) (i : ℕ) → i < length xs → left ≡ drop i xs → 0 < length left
some_left xs left i low is = subst (λ (ys : List Spot). 0 < length ys) (sym is) (let more = length-drop i xs in omega (arith, more))
