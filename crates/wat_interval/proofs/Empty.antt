-- An empty interval holds no key.
use Rattle.std.proofs.Common.{◌≡◌, ℕ, zero, suc, ◌≤◌, Bool, true, false, ◌&&◌, ◌||◌, List, [], ◌∷◌, length, take, ◌⊎◌, refl, sym, ap, ◌∙◌, subst, inl, inr, ⊎_elim, nat_le, min, arith}
use Rattle.std.specs.declared.cmp.Ordering.{Ordering}
use Rattle.std.specs.declared.cmp.Ordering.TheVariants as o
use Rattle.std.specs.Ordering.{is_lt, is_le, is_gt, is_ge, is_eq, ordering_reverse, ordering_then}
use Rattle.std.proofs.lemmas.Cmp.{upto}
use Rattle.std.proofs.lemmas.Bool.{and_parts, cases_Bool, both_ways, leb-true}
use Rattle.wat_value.specs.declared.value.Value.{Value}
use Rattle.wat_value.specs.declared.bound.Bound.{Bound}
use Rattle.wat_value.specs.declared.bound.Bound.TheVariants.{Free, Including, Excluding}
use Rattle.wat_value.specs.declared.bound.Interval.{Interval}
use Rattle.wat_value.specs.Order.{value_cmp, key_cmp}
use Rattle.wat_value.specs.OrderLaws.{key_cmp_total, key_cmp_level, key_cmp_refl}
use Rattle.wat_value.specs.Bounds.{prefix_cmp, is_above, is_below, holds}
use Rattle.wat_interval.specs.Intervals.{bound_values, excludes_within, is_crossed, is_empty}

then_le : (c p q : Ordering) → (is_gt p ≡ false → is_gt q ≡ false) → is_gt (ordering_then c p) ≡ false → is_gt (ordering_then c q) ≡ false
then_le o.Less p q h e = refl
then_le o.Equal p q h e = h e
then_le o.Greater p q h e = e

lt_not_gt : (c : Ordering) → is_lt c ≡ true → is_gt c ≡ false
lt_not_gt o.Less e = refl
lt_not_gt o.Equal e = cc
lt_not_gt o.Greater e = cc

le_not_gt : (c : Ordering) → is_le c ≡ true → is_gt c ≡ false
le_not_gt o.Less e = refl
le_not_gt o.Equal e = refl
le_not_gt o.Greater e = cc

take_le : (n : ℕ) (x y : List Value) → is_gt (key_cmp x y) ≡ false → is_gt (key_cmp (take n x) (take n y)) ≡ false
take_le zero x y e = refl
take_le (suc n) [] [] e = refl
take_le (suc n) [] (y ∷ ys) e = refl
take_le (suc n) (x ∷ xs) [] e = cc
take_le (suc n) (x ∷ xs) (y ∷ ys) e = then_le (value_cmp x y) (key_cmp xs ys) (key_cmp (take n xs) (take n ys)) (take_le n xs ys) e

le_le : (x y z : List Value) → is_gt (key_cmp x y) ≡ false → is_gt (key_cmp y z) ≡ false → is_gt (key_cmp x z) ≡ false
le_le x y z a b = upto key_cmp_total x y z a b

gt_back : (x y : List Value) → is_gt (key_cmp x y) ≡ is_lt (key_cmp y x)
gt_back x y = ap is_gt (key_cmp_total.antisymm x y) ∙ turned (key_cmp y x)
  where
    turned : (c : Ordering) → is_gt (ordering_reverse c) ≡ is_lt c
    turned o.Less = refl
    turned o.Equal = refl
    turned o.Greater = refl

ge_lt : (c : Ordering) → is_ge c ≡ true → is_lt c ≡ false
ge_lt o.Less e = cc
ge_lt o.Equal e = refl
ge_lt o.Greater e = refl

gt_lt : (c : Ordering) → is_gt c ≡ true → is_lt c ≡ false
gt_lt o.Less e = cc
gt_lt o.Equal e = cc
gt_lt o.Greater e = refl

eq_gt : (c : Ordering) → is_eq c ≡ true → is_gt c ≡ false
eq_gt o.Less e = cc
eq_gt o.Equal e = refl
eq_gt o.Greater e = cc

eq_lt : (c : Ordering) → is_eq c ≡ true → is_lt c ≡ false
eq_lt o.Less e = cc
eq_lt o.Equal e = refl
eq_lt o.Greater e = cc

or_cases : (x y : Bool) → (x || y) ≡ true → (x ≡ true) ⊎ (y ≡ true)
or_cases true y h = inl refl
or_cases false y h = inr h

-- the first n of the first m
shorter : (n m : ℕ) (x : List Value) → n ≤ m → take n (take m x) ≡ take n x
shorter zero m x h = refl
shorter (suc n) zero x h = absurd (omega arith)
shorter (suc n) (suc m) [] h = refl
shorter (suc n) (suc m) (v ∷ x) h = ap (λ z. v ∷ z) (shorter n m x (omega arith))

all_of : (n : ℕ) (x : List Value) → length x ≤ n → take n x ≡ x
all_of zero [] h = refl
all_of zero (v ∷ x) h = absurd (omega arith)
all_of (suc n) [] h = refl
all_of (suc n) (v ∷ x) h = ap (λ z. v ∷ z) (all_of n x (omega arith))

-- a key above a bound is not before its first values
above_prefix : (b : Bound) (key : List Value) (n : ℕ) → n ≤ length (bound_values b) → is_above b key ≡ true → is_gt (key_cmp (take n (bound_values b)) (take n key)) ≡ false
above_prefix Free key zero h a = refl
above_prefix Free key (suc n) h a = absurd (omega arith)
above_prefix (Including b) key n h a =
    subst (λ z. is_gt (key_cmp (take n b) z) ≡ false) (shorter n (length b) key h)
    (take_le n b (take (length b) key) (gt_back b (take (length b) key) ∙ ge_lt (prefix_cmp key b) a))
above_prefix (Excluding b) key n h a =
    subst (λ z. is_gt (key_cmp (take n b) z) ≡ false) (shorter n (length b) key h)
    (take_le n b (take (length b) key) (gt_back b (take (length b) key) ∙ gt_lt (prefix_cmp key b) a))

below_prefix : (b : Bound) (key : List Value) (n : ℕ) → n ≤ length (bound_values b) → is_below b key ≡ true → is_gt (key_cmp (take n key) (take n (bound_values b))) ≡ false
below_prefix Free key zero h a = refl
below_prefix Free key (suc n) h a = absurd (omega arith)
below_prefix (Including b) key n h a =
    subst (λ z. is_gt (key_cmp z (take n b)) ≡ false) (shorter n (length b) key h) (take_le n (take (length b) key) b (le_not_gt (prefix_cmp key b) a))
below_prefix (Excluding b) key n h a =
    subst (λ z. is_gt (key_cmp z (take n b)) ≡ false) (shorter n (length b) key h) (take_le n (take (length b) key) b (lt_not_gt (prefix_cmp key b) a))

zero_right : (x : Bool) → (x && false) ≡ false
zero_right true = refl
zero_right false = refl

-- a key that begins as a bound that excludes is not above it, and not below it
excluded_above : (b : Bound) (key : List Value) (n : ℕ) → n ≤ length (bound_values b) → excludes_within n b ≡ true → take n key ≡ take n (bound_values b) → is_above b key ≡ true → ⊥
excluded_above Free key n h e same a = both_ways (nat_le 0 n && false) (zero_right (nat_le 0 n)) e
excluded_above (Including b) key n h e same a =
    both_ways (nat_le (length b) n && false) (zero_right (nat_le (length b) n)) e
excluded_above (Excluding b) key n h e same a =
    let short : length b ≤ n = leb-true (length b) n (and_parts (nat_le (length b) n) true e).0 in
    let is : n ≡ length b = omega (arith, h, short) in
    let at : take (length b) key ≡ b = subst (λ m. take m key ≡ take m b) is same ∙ all_of (length b) b (omega arith) in
    both_ways (is_gt (prefix_cmp key b)) (ap (λ z. is_gt (key_cmp z b)) at ∙ ap is_gt (key_cmp_refl b)) a

excluded_below : (b : Bound) (key : List Value) (n : ℕ) → n ≤ length (bound_values b) → excludes_within n b ≡ true → take n key ≡ take n (bound_values b) → is_below b key ≡ true → ⊥
excluded_below Free key n h e same a = both_ways (nat_le 0 n && false) (zero_right (nat_le 0 n)) e
excluded_below (Including b) key n h e same a =
    both_ways (nat_le (length b) n && false) (zero_right (nat_le (length b) n)) e
excluded_below (Excluding b) key n h e same a =
    let short : length b ≤ n = leb-true (length b) n (and_parts (nat_le (length b) n) true e).0 in
    let is : n ≡ length b = omega (arith, h, short) in
    let at : take (length b) key ≡ b = subst (λ m. take m key ≡ take m b) is same ∙ all_of (length b) b (omega arith) in
    both_ways (is_lt (prefix_cmp key b)) (ap (λ z. is_lt (key_cmp z b)) at ∙ ap is_lt (key_cmp_refl b)) a

both_le : (x y : List Value) → is_gt (key_cmp x y) ≡ false → is_gt (key_cmp y x) ≡ false → x ≡ y
both_le x y a b = by (key_cmp x y) refl
  where
    by : (c : Ordering) → key_cmp x y ≡ c → x ≡ y
    by o.Less e = absurd (both_ways (is_gt (key_cmp y x)) b (gt_back y x ∙ ap is_lt e))
    by o.Equal e = key_cmp_level x y e
    by o.Greater e = absurd (both_ways (is_gt (key_cmp x y)) a (ap is_gt e))

crossed_none : (n : ℕ) (i : Interval) (key : List Value) → n ≤ length (bound_values i.lower) → n ≤ length (bound_values i.upper) → is_crossed n i ≡ true → is_above i.lower key ≡ true → is_below i.upper key ≡ true → ⊥
crossed_none n i key h k c a b = ⊎_elim
    (λ (g : is_gt (key_cmp low high) ≡ true). both_ways (is_gt (key_cmp low high)) (le_le low (take n key) high l u) g)
    (λ (q : (is_eq (key_cmp low high) && (excludes_within n i.lower || excludes_within n i.upper)) ≡ true).
    let p = and_parts (is_eq (key_cmp low high)) (excludes_within n i.lower || excludes_within n i.upper) q in
    let level : low ≡ high = both_le low high (eq_gt (key_cmp low high) p.0) (gt_back high low ∙ eq_lt (key_cmp low high) p.0) in
    let at_low : take n key ≡ low = both_le (take n key) low (subst (λ z. is_gt (key_cmp (take n key) z) ≡ false) (sym level) u) l in
    ⊎_elim
    (λ (e : excludes_within n i.lower ≡ true). excluded_above i.lower key n h e at_low a)
    (λ (e : excludes_within n i.upper ≡ true). excluded_below i.upper key n k e (at_low ∙ level) b)
    (or_cases (excludes_within n i.lower) (excludes_within n i.upper) p.1))
    (or_cases (is_gt (key_cmp low high)) (is_eq (key_cmp low high) && (excludes_within n i.lower || excludes_within n i.upper)) c)
  where
    low : List Value
    low = take n (bound_values i.lower)

    high : List Value
    high = take n (bound_values i.upper)

    l : is_gt (key_cmp low (take n key)) ≡ false
    l = above_prefix i.lower key n h a

    u : is_gt (key_cmp (take n key) high) ≡ false
    u = below_prefix i.upper key n k b

pub empty_holds_none : (i : Interval) (key : List Value) → is_empty i ≡ true → holds i key ≡ false
empty_holds_none i key e = ⊎_elim
    (λ (h : holds i key ≡ true).
    let p = and_parts (is_above i.lower key) (is_below i.upper key) h in
    absurd (crossed_none (min (length (bound_values i.lower)) (length (bound_values i.upper))) i key (omega arith) (omega arith) e p.0 p.1))
    (λ f. f)
    (cases_Bool (holds i key))
