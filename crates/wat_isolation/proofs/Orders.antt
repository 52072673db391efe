-- Keys in order, and cuts.
use Rattle.std.proofs.Common.{◌≡◌, Bool, true, false, not, List, [], ◌∷◌, ◌++◌, ◌⊎◌, Option, Some, None, refl, sym, ap, ◌∙◌, subst, inl, inr, ⊎_elim}
use Rattle.std.proofs.lemmas.Bool.{cases_Bool, both_ways}
use Rattle.wat_isolation.specs.World.{World}
use Rattle.wat_list.specs.Has.{Has}
use Rattle.wat_isolation.specs.Rows.{Cut, IsCut, before, upto, Rising}
use Rattle.wat_isolation.proofs.Basics.{has_cases}

pub not_less_self : (w : World) (x y : w.Key) → w.less x y ≡ true → x ≡ y → ⊥
not_less_self w x y l e = both_ways (w.less x x) (w.less_self x) (subst (λ z. w.less x z ≡ true) (sym e) l)

pub not_less_both : (w : World) (x y : w.Key) → w.less x y ≡ true → w.less y x ≡ true → ⊥
not_less_both w x y a b = not_less_self w x x (w.less_trans x y x a b) refl

pub less_false : (w : World) (x y : w.Key) → w.less x y ≡ true → w.less y x ≡ false
less_false w x y l = ⊎_elim (λ t. absurd (not_less_both w x y l t)) (λ f. f) (cases_Bool (w.less y x))

pub cases_key_same : (w : World) (x y : w.Key) → (x ≡ y) ⊎ (x ≡ y → ⊥)
cases_key_same w x y =
    ⊎_elim (λ e. inl e)
    (λ d. inr (λ e. ⊎_elim (λ (l : w.less x y ≡ true). not_less_self w x y l e) (λ (l : w.less y x ≡ true). not_less_self w y x l (sym e)) d))
    (w.order x y)

pub cases_key : (w : World) (o : Option w.Key) (x : w.Key) → (o ≡ Some x) ⊎ (o ≡ Some x → ⊥)
cases_key w None x = inr (λ e. cc)
cases_key w (Some y) x = ⊎_elim (λ (e : y ≡ x). inl (ap (λ z. Some z) e)) (λ (ne : y ≡ x → ⊥). inr (λ e. ne (cc))) (cases_key_same w y x)

pub not_true : (b : Bool) → not b ≡ true → b ≡ false
not_true true e = sym e
not_true false e = refl

pub not_false : (b : Bool) → not b ≡ false → b ≡ true
not_false true e = refl
not_false false e = sym e

pub from_false : (b : Bool) → b ≡ false → not b ≡ true
from_false b e = ap not e

pub from_true : (b : Bool) → b ≡ true → not b ≡ false
from_true b e = ap not e

-- not after: the same or before
pub le_cases : (w : World) (x y : w.Key) → w.less y x ≡ false → (x ≡ y) ⊎ (w.less x y ≡ true)
le_cases w x y f = ⊎_elim (λ e. inl e) (λ d. ⊎_elim (λ l. inr l) (λ l. absurd (both_ways (w.less y x) f l)) d) (w.order x y)

pub is_before : (w : World) (x : w.Key) → IsCut w (before w x)
is_before w x y z l h = w.less_trans y z x l h

pub is_upto : (w : World) (x : w.Key) → IsCut w (upto w x)
is_upto w x y z l h =
    ⊎_elim
    (λ (t : w.less x y ≡ true). absurd (both_ways (w.less x z) (not_true (w.less x z) h) (w.less_trans x y z t l)))
    (λ f. from_false (w.less x y) f)
    (cases_Bool (w.less x y))

-- a key before a cut is before a key that is not
pub below : (w : World) (c : Cut w) → IsCut w c → (x y : w.Key) → c x ≡ true → c y ≡ false → w.less x y ≡ true
below w c cut x y a b =
    ⊎_elim (λ (e : x ≡ y). absurd (both_ways (c y) b (subst (λ z. c z ≡ true) e a)))
    (λ d. ⊎_elim (λ l. l) (λ (l : w.less y x ≡ true). absurd (both_ways (c y) b (cut y x l a))) d)
    (w.order x y)

-- a key past a key that is not before a cut is not before it
pub above : (w : World) (c : Cut w) → IsCut w c → (x y : w.Key) → c x ≡ false → w.less x y ≡ true → c y ≡ false
above w c cut x y a l = ⊎_elim (λ t. absurd (both_ways (c x) a (cut x y l t))) (λ f. f) (cases_Bool (c y))

-- the same, where the first is not after the second
pub not_before : (w : World) (c : Cut w) → IsCut w c → (x y : w.Key) → c x ≡ false → w.less y x ≡ false → c y ≡ false
not_before w c cut x y a f = ⊎_elim (λ (e : x ≡ y). subst (λ z. c z ≡ false) e a) (λ l. above w c cut x y a l) (le_cases w x y f)

pub rising_append : (w : World) (xs ys : List (w.Key × w.Content)) → Rising w xs → Rising w ys → ((x y : w.Key × w.Content) → Has x xs → Has y ys → w.less x.0 y.0 ≡ true) → Rising w (xs ++ ys)
rising_append w [] ys a b h = b
rising_append w (x ∷ xs) ys a b h =
    ((λ d k. ⊎_elim (λ m. a.0 d m) (λ m. h x d (inl refl) m) (has_cases d xs ys k)), rising_append w xs ys a.1 b (λ p q m n. h p q (inr m) n))

-- two rising lists with the same members are one: what a scan answers is determined
pub rising_once : (w : World) (xs ys : List (w.Key × w.Content)) → Rising w xs → Rising w ys → ((e : w.Key × w.Content) → Has e xs → Has e ys) → ((e : w.Key × w.Content) → Has e ys → Has e xs) → xs ≡ ys
rising_once w [] [] a b to back = refl
rising_once w [] (y ∷ ys) a b to back = absurd (back y (inl refl))
rising_once w (x ∷ xs) [] a b to back = absurd (to x (inl refl))
rising_once w (x ∷ xs) (y ∷ ys) a b to back =
    let same : x ≡ y = heads (to x (inl refl)) (back y (inl refl)) in
    let rest : xs ≡ ys = rising_once w xs ys a.1 b.1 (λ e h. tail_to e h (to e (inr h)) same) (λ e h. tail_back e h (back e (inr h)) same) in
    ap (λ z. z ∷ xs) same ∙ ap (λ z. y ∷ z) rest
  where
    heads : Has x (y ∷ ys) → Has y (x ∷ xs) → x ≡ y
    heads (inl e) k = sym e
    heads (inr h) (inl e) = e
    heads (inr h) (inr k) = absurd (not_less_both w x.0 y.0 (a.0 y k) (b.0 x h))

    tail_to : (e : w.Key × w.Content) → Has e xs → Has e (y ∷ ys) → x ≡ y → Has e ys
    tail_to e h (inl k) same = absurd (not_less_self w x.0 e.0 (a.0 e h) (ap (λ (z : w.Key × w.Content). z.0) (same ∙ k)))
    tail_to e h (inr k) same = k

    tail_back : (e : w.Key × w.Content) → Has e ys → Has e (x ∷ xs) → x ≡ y → Has e xs
    tail_back e h (inl k) same = absurd (not_less_self w y.0 e.0 (b.0 e h) (ap (λ (z : w.Key × w.Content). z.0) (sym same ∙ k)))
    tail_back e h (inr k) same = k
