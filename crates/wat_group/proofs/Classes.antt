-- Sorted items fall into runs of equal keys, and each run is a class.
use Rattle.std.proofs.Common.{◌≡◌, ℕ, suc, ◌+◌, Bool, true, false, not, cond, List, [], ◌∷◌, map, filter, take, drop, refl, sym, ap, ap₂, ◌∙◌, arith, Ordering, Less, Equal, Greater, is_eq, is_gt, true≢false}
use Rattle.std.specs.List.{AllByRecursion, prefix_len}
use Rattle.std.specs.Ordering.{on}
use Rattle.sqlite_trees.specs.Tree.{IsAscending}
use Rattle.sqlite_keyed.proofs.ListLemmas.{filter-map, filter-filter, filter_all, filter_none, all_weaker}
use Rattle.wat_value.specs.Order.{key_cmp}
use Rattle.wat_value.specs.OrderLaws.{key_cmp_total, key_cmp_level, key_cmp_refl}
use Rattle.wat_value.specs.Order.{key_eq}
use Rattle.wat_group.specs.Query.{Row, first_of_each}
use Rattle.wat_group.proofs.Sorting.{AtMost}

-- ---- equal keys

is_Equal : (o : Ordering) → is_eq o ≡ true → o ≡ Equal
is_Equal Less e = cc
is_Equal Equal e = refl
is_Equal Greater e = cc

pub key_eq_same : (a b : Row) → key_eq a b ≡ true → a ≡ b
key_eq_same a b e = key_cmp_level a b (is_Equal _ e)

pub key_eq_refl : (a : Row) → key_eq a a ≡ true
key_eq_refl a = ap is_eq (key_cmp_refl a)

-- ---- lists

pub map_same_on : {A B : Type 0} (f g : A → B) (xs : List A) → AllByRecursion (λ x. f x ≡ g x) xs → map f xs ≡ map g xs
map_same_on f g [] all = refl
map_same_on f g (x ∷ xs) all = ap₂ ◌∷◌ all.0 (map_same_on f g xs all.1)

pub all_pass : {A : Type 0} (p : A → Bool) (xs : List A) → AllByRecursion (λ x. p x ≡ true) (filter p xs)
all_pass p [] = tt
all_pass {A} p (x ∷ xs) = go (p x) refl (all_pass p xs)
  where
    go : (b : Bool) → p x ≡ b → AllByRecursion (λ y. p y ≡ true) (filter p xs) → AllByRecursion (λ y. p y ≡ true) (cond b (x ∷ filter p xs) (filter p xs))
    go true e more = (e, more)
    go false e more = more

pub filter_swap : {A : Type 0} (p q : A → Bool) (xs : List A) → filter p (filter q xs) ≡ filter q (filter p xs)
filter_swap p q [] = refl
filter_swap p q (x ∷ xs) = go (p x) (q x) refl refl (filter_swap p q xs)
  where
    go : (a b : Bool) → p x ≡ a → q x ≡ b → filter p (filter q xs) ≡ filter q (filter p xs)
        → filter p (cond b (x ∷ filter q xs) (filter q xs)) ≡ filter q (cond a (x ∷ filter p xs) (filter p xs))
    go true true e f more = rw (e, f) (ap (λ l. x ∷ l) more)
    go true false e f more = rw f more
    go false true e f more = rw e more
    go false false e f more = more

pub first_of_each-filter : {A : Type 0} (same : A → A → Bool) (q : A → Bool) → ((x y : A) → same x y ≡ true → q x ≡ q y) → (xs : List A)
    → first_of_each same (filter q xs) ≡ filter q (first_of_each same xs)
first_of_each-filter same q respects [] = refl
first_of_each-filter same q respects (x ∷ xs) = go (q x) refl (first_of_each-filter same q respects xs)
  where
    go : (b : Bool) → q x ≡ b → first_of_each same (filter q xs) ≡ filter q (first_of_each same xs)
        → first_of_each same (cond b (x ∷ filter q xs) (filter q xs)) ≡ cond b (x ∷ filter q (filter (λ y. not (same x y)) (first_of_each same xs))) (filter q (filter (λ y. not (same x y)) (first_of_each same xs)))
    go true e more = ap (λ l. x ∷ filter (λ y. not (same x y)) l) more ∙ ap (λ l. x ∷ l) (filter_swap (λ y. not (same x y)) q (first_of_each same xs))
    go false e more = more ∙ sym (filter-filter q (λ y. not (same x y)) (λ y passes. apart y passes (same x y) refl) (first_of_each same xs))
      where
        apart : (y : _) → q y ≡ true → (b : Bool) → same x y ≡ b → not b ≡ true
        apart y passes true s = absurd (true≢false (sym passes ∙ sym (respects x y s) ∙ e))
        apart y passes false s = refl

-- ---- runs

module _ {X : Type 0} (key : X → Row) where
  abbrev pub class : Row → List X → List X
  class k = filter (λ x. key_eq k (key x))

  abbrev pub classes : List X → List (List X)
  classes xs = map (λ k. class k xs) (first_of_each key_eq (map key xs))

  abbrev pub by_key : X → X → Ordering
  by_key = on key key_cmp

  -- how many items from the front on have this key
  abbrev pub run : Row → List X → ℕ
  run k xs = prefix_len (λ x. key_eq k (key x)) xs

  module _ (p : X) where
    abbrev same : X → Bool
    same x = key_eq (key p) (key x)

    abbrev other : X → Bool
    other x = not (same x)

    above : (x y : X) → is_gt (key_cmp (key p) (key x)) ≡ false → same x ≡ false → is_gt (key_cmp (key x) (key y)) ≡ false → same y ≡ false
    above x y low apart up = go (key_cmp (key p) (key x)) (key_cmp (key x) (key y)) refl refl low apart up
      where
        go : (r s : Ordering) → key_cmp (key p) (key x) ≡ r → key_cmp (key x) (key y) ≡ s → is_gt r ≡ false → is_eq r ≡ false → is_gt s ≡ false → same y ≡ false
        go Less Less u v a b c = ap is_eq (key_cmp_total.trans (key p) (key x) (key y) u v)
        go Less Equal u v a b c = ap is_eq (ap (key_cmp (key p)) (sym (key_cmp_level (key x) (key y) v)) ∙ u)
        go Less Greater u v a b c = absurd (true≢false c)
        go Equal s u v a b c = absurd (true≢false b)
        go Greater s u v a b c = absurd (true≢false a)

    one_more : (n : ℕ) → 1 + n ≡ suc n
    one_more n = omega arith

    front : (xs : List X) → AllByRecursion (AtMost by_key p) xs → IsAscending (AtMost by_key) xs → filter same xs ≡ take (prefix_len same xs) xs
    front [] low up = refl
    front (x ∷ xs) low up = go (same x) refl (front xs low.1 up.1)
      where
        go : (b : Bool) → same x ≡ b → filter same xs ≡ take (prefix_len same xs) xs
            → cond b (x ∷ filter same xs) (filter same xs) ≡ take (cond b (1 + prefix_len same xs) 0) (x ∷ xs)
        go true e more = ap (λ l. x ∷ l) more ∙ sym (ap (λ n. take n (x ∷ xs)) (one_more (prefix_len same xs)))
        go false e more = filter_none same xs (all_weaker (AtMost by_key x) (λ y. same y ≡ false) (λ y. above x y low.0 e) xs up.0)

    back : (xs : List X) → AllByRecursion (AtMost by_key p) xs → IsAscending (AtMost by_key) xs → filter other xs ≡ drop (prefix_len same xs) xs
    back [] low up = refl
    back (x ∷ xs) low up = go (same x) refl (back xs low.1 up.1)
      where
        go : (b : Bool) → same x ≡ b → filter other xs ≡ drop (prefix_len same xs) xs
            → cond (not b) (x ∷ filter other xs) (filter other xs) ≡ drop (cond b (1 + prefix_len same xs) 0) (x ∷ xs)
        go true e more = more ∙ sym (ap (λ n. drop n (x ∷ xs)) (one_more (prefix_len same xs)))
        go false e more = ap (λ l. x ∷ l) (filter_all other xs (all_weaker (AtMost by_key x) (λ y. other y ≡ true) (λ y h. ap not (above x y low.0 e h)) xs up.0))

    low_all : (xs : List X) → IsAscending (AtMost by_key) (p ∷ xs) → AllByRecursion (AtMost by_key p) (p ∷ xs)
    low_all xs up = (ap is_gt (key_cmp_refl (key p)), up.0)

    -- the first run is the first class, and the classes of what follows it are the others
    pub classes-run : (xs : List X) → IsAscending (AtMost by_key) (p ∷ xs)
        → classes (p ∷ xs) ≡ take (run (key p) (p ∷ xs)) (p ∷ xs) ∷ classes (drop (run (key p) (p ∷ xs)) (p ∷ xs))
    classes-run xs up =
        let l = p ∷ xs in
        let low = low_all xs up in
        let rest = drop (run (key p) l) l in
        let others : filter other l ≡ rest = back l low up in
        let tail : filter other l ≡ filter other xs = ap (λ b. cond (not b) (p ∷ filter other xs) (filter other xs)) (key_eq_refl (key p)) in
        let apart = λ (k : Row). not (key_eq (key p) k) in
        let ks = filter apart (first_of_each key_eq (map key xs)) in
        let keys : ks ≡ first_of_each key_eq (map key rest) =
        sym (first_of_each-filter key_eq apart (λ a b e. ap apart (key_eq_same a b e)) (map key xs))
        ∙ ap (first_of_each key_eq) (filter-map apart key xs ∙ ap (map key) (sym tail ∙ others)) in
        let within : AllByRecursion (λ k. class k l ≡ class k rest) ks =
        all_weaker (λ k. apart k ≡ true) (λ k. class k l ≡ class k rest)
        (λ k h. sym (filter-filter (λ x. key_eq k (key x)) other (λ x e. ap apart (sym (key_eq_same k (key x) e)) ∙ h) l) ∙ ap (class k) others) ks (all_pass apart _) in
        ap₂ ◌∷◌ (front l low up) (map_same_on (λ k. class k l) (λ k. class k rest) ks within ∙ ap (map (λ k. class k rest)) keys)
