-- Numbers in their order, and what a table or an index that comes or goes leaves of it.
use Rattle.std.proofs.Common.{◌≡◌, ℕ, ◌+◌, ◌<◌, ◌≤◌, Bool, true, false, not, cond, ◌&&◌, ◌||◌, if◌then◌else◌, List, [], ◌∷◌, ◌++◌, map, take, drop, length, get_or, set, Some, None, slice_get, zero, suc, filter, is_none, nat_lt, ◌==◌, refl, sym, ap, ap₂, ◌∙◌, arith}
use Rattle.std.specs.List.{find, list_any, remove, take-map, drop-map, range_with_len}
use Rattle.std.proofs.lemmas.Bool.{and_parts, or_parts, or_from, ltb-true, lt-ltb, eq-eqb, ne_eqb}
use Rattle.std.proofs.lemmas.List.{map-append}
use Rattle.wat_schema.specs.Catalog.{ascend, repeats}

-- what a list that begins in order says
pub record Begins (low n : ℕ) (ns : List ℕ) (high : ℕ) : Type 0 where
  pub above : low < n
  pub below : n < high
  pub rest : ascend n ns high ≡ true

pub begins : (low n : ℕ) (ns : List ℕ) (high : ℕ) → ascend low (n ∷ ns) high ≡ true → Begins low n ns high
begins low n ns high h =
    let first = and_parts (nat_lt low n && nat_lt n high) (ascend n ns high) h in
    let bounds = and_parts (nat_lt low n) (nat_lt n high) first.0 in
    record { above = ltb-true low n bounds.0; below = ltb-true n high bounds.1; rest = first.1 }

begin : (low n : ℕ) (ns : List ℕ) (high : ℕ) → low < n → n < high → ascend n ns high ≡ true → ascend low (n ∷ ns) high ≡ true
begin low n ns high a b r = rw (lt-ltb low n a, lt-ltb n high b) r

-- only the first number is asked about the lower bound
lower : (less low : ℕ) (ns : List ℕ) (high : ℕ) → less ≤ low → ascend low ns high ≡ true → ascend less ns high ≡ true
lower less low [] high l h = refl
lower less low (n ∷ ns) high l h = let b = begins low n ns high h in begin less n ns high (omega arith) b.below b.rest

-- and only that no number reaches the upper one
pub higher : (low : ℕ) (ns : List ℕ) (high more : ℕ) → high ≤ more → ascend low ns high ≡ true → ascend low ns more ≡ true
higher low [] high more l h = refl
higher low (n ∷ ns) high more l h = let b = begins low n ns high h in begin low n ns more b.above (omega arith) (higher n ns high more l b.rest)

-- the upper bound goes last, and the next one is above it
pub ascend-next : (low : ℕ) (ns : List ℕ) (high : ℕ) → low < high → ascend low ns high ≡ true → ascend low (ns ++ high ∷ []) (high + 1) ≡ true
ascend-next low [] high l h = begin low high [] (high + 1) l (omega arith) refl
ascend-next low (n ∷ ns) high l h =
    let b = begins low n ns high h in
    begin low n (ns ++ high ∷ []) (high + 1) b.above (omega arith) (ascend-next n ns high b.below b.rest)

-- the upper bound is none of them
pub fresh_number : (low : ℕ) (ns : List ℕ) (high : ℕ) → ascend low ns high ≡ true → list_any (λ n. high == n) ns ≡ false
fresh_number low [] high h = refl
fresh_number low (n ∷ ns) high h =
    let b = begins low n ns high h in
    or_from (high == n) (list_any (λ n. high == n) ns) (ne_eqb high n (λ e. omega arith)) (fresh_number n ns high b.rest)

module _ {X : Type 0} (f : X → ℕ) where
  pub ascend-filter : (p : X → Bool) (low : ℕ) (xs : List X) (high : ℕ) → ascend low (map f xs) high ≡ true → ascend low (map f (filter p xs)) high ≡ true
  ascend-filter p low [] high h = refl
  ascend-filter p low (x ∷ xs) high h =
      let b = begins low (f x) (map f xs) high h in
      let rest = ascend-filter p (f x) xs high b.rest in
      elim (p x) as (λ v. ascend low (map f (cond v (x ∷ filter p xs) (filter p xs))) high ≡ true) [
        | true ↦ begin low (f x) (map f (filter p xs)) high b.above b.below rest
        | false ↦ lower low (f x) (map f (filter p xs)) high (omega arith) rest
      ]

  -- an item's number is above the lower bound
  above : (low : ℕ) (xs : List X) (high i : ℕ) (x : X) → ascend low (map f xs) high ≡ true → slice_get xs i ≡ Some x → low < f x
  above low [] high i x h at = absurd (let no : None ≡ Some x = at in cc)
  above low (y ∷ ys) high zero x h at =
      let b = begins low (f y) (map f ys) high h in
      let same : y ≡ x = cc in
      let number : f y ≡ f x = ap f same in
      omega arith
  above low (y ∷ ys) high (suc i) x h at =
      let b = begins low (f y) (map f ys) high h in
      let more = above (f y) ys high i x b.rest at in
      omega arith

  -- no item has a number that is not above the lower bound
  module _ (n : ℕ) where
    kept : (low : ℕ) (xs : List X) (high : ℕ) → n ≤ low → ascend low (map f xs) high ≡ true → filter (λ x. not (n == f x)) xs ≡ xs
    kept low [] high l h = refl
    kept low (x ∷ xs) high l h =
        let b = begins low (f x) (map f xs) high h in
        let other : (n == f x) ≡ false = ne_eqb n (f x) (λ e. omega arith) in
        rw other (ap (λ rest. x ∷ rest) (kept (f x) xs high (omega arith) b.rest))

    -- what has the number goes, which stands in one place
    pub remove-filter : (low : ℕ) (xs : List X) (high i : ℕ) (x : X) → ascend low (map f xs) high ≡ true → slice_get xs i ≡ Some x → n ≡ f x
        → remove xs i ≡ filter (λ x. not (n == f x)) xs
    remove-filter low [] high i x h at is = absurd (let no : None ≡ Some x = at in cc)
    remove-filter low (y ∷ ys) high zero x h at is =
        let b = begins low (f y) (map f ys) high h in
        let same : y ≡ x = cc in
        let number : n ≡ f y = is ∙ ap f (sym same) in
        let here : (n == f y) ≡ true = eq-eqb n (f y) number in
        rw here (sym (kept (f y) ys high (omega arith) b.rest))
    remove-filter low (y ∷ ys) high (suc i) x h at is =
        let b = begins low (f y) (map f ys) high h in
        let later = above (f y) ys high i x b.rest at in
        let other : (n == f y) ≡ false = ne_eqb n (f y) (λ e. omega arith) in
        rw other (ap (λ rest. y ∷ rest) (remove-filter (f y) ys high i x b.rest at is))

    module _ (h : X → X) where
      unchanged : (low : ℕ) (xs : List X) (high : ℕ) → n ≤ low → ascend low (map f xs) high ≡ true → map (λ x. if n == f x then h x else x) xs ≡ xs
      unchanged low [] high l o = refl
      unchanged low (x ∷ xs) high l o =
          let b = begins low (f x) (map f xs) high o in
          let other : (n == f x) ≡ false = ne_eqb n (f x) (λ e. omega arith) in
          rw other (ap (λ rest. x ∷ rest) (unchanged (f x) xs high (omega arith) b.rest))

      -- what has the number is changed, which stands in one place
      pub set-map : (low : ℕ) (xs : List X) (high i : ℕ) (x : X) → ascend low (map f xs) high ≡ true → slice_get xs i ≡ Some x → n ≡ f x
          → set xs i (h x) ≡ map (λ x. if n == f x then h x else x) xs
      set-map low [] high i x o at is = absurd (let no : None ≡ Some x = at in cc)
      set-map low (y ∷ ys) high zero x o at is =
          let b = begins low (f y) (map f ys) high o in
          let same : y ≡ x = cc in
          let number : n ≡ f y = is ∙ ap f (sym same) in
          let here : (n == f y) ≡ true = eq-eqb n (f y) number in
          rw here (ap₂ (λ a rest. a ∷ rest) (ap h (sym same)) (sym (unchanged (f y) ys high (omega arith) b.rest)))
      set-map low (y ∷ ys) high (suc i) x o at is =
          let b = begins low (f y) (map f ys) high o in
          let later = above (f y) ys high i x b.rest at in
          let other : (n == f y) ≡ false = ne_eqb n (f y) (λ e. omega arith) in
          rw other (ap (λ rest. y ∷ rest) (set-map (f y) ys high i x b.rest at is))

-- one that goes leaves the order
pub ascend-remove : (low : ℕ) (ns : List ℕ) (high i : ℕ) → ascend low ns high ≡ true → ascend low (remove ns i) high ≡ true
ascend-remove low [] high zero h = refl
ascend-remove low [] high (suc i) h = refl
ascend-remove low (n ∷ ns) high zero h = let b = begins low n ns high h in lower low n ns high (omega arith) b.rest
ascend-remove low (n ∷ ns) high (suc i) h =
    let b = begins low n ns high h in
    begin low n (remove ns i) high b.above b.below (ascend-remove n ns high i b.rest)

module _ {X Y : Type 0} (f : X → Y) where
  pub map-remove : (xs : List X) (i : ℕ) → map f (remove xs i) ≡ remove (map f xs) i
  map-remove xs i = map-append f (take i xs) (drop (suc i) xs) ∙ ap₂ (λ a b. a ++ b) (sym (take-map f i xs)) (sym (drop-map f (suc i) xs))

  pub map-set_same : (xs : List X) (i : ℕ) (x y : X) → slice_get xs i ≡ Some x → f y ≡ f x → map f (set xs i y) ≡ map f xs
  map-set_same [] i x y at e = refl
  map-set_same (z ∷ zs) zero x y at e = let same : z ≡ x = cc in ap (λ a. a ∷ map f zs) (e ∙ ap f (sym same))
  map-set_same (z ∷ zs) (suc i) x y at e = ap (λ rest. f z ∷ rest) (map-set_same zs i x y at e)

module _ {X : Type 0} (p : X → Bool) where
  pub list_any-found : (xs : List X) → is_none (find p xs) ≡ true → list_any p xs ≡ false
  list_any-found [] h = refl
  list_any-found (x ∷ xs) h =
      elim (p x) as (λ v. is_none (cond v (Some x) (find p xs)) ≡ true → (v || list_any p xs) ≡ false) [
        | true ↦ λ no. absurd (let h : false ≡ true = no in cc)
        | false ↦ λ none. list_any-found xs none
      ] h

  pub list_any-off : (xs : List X) (i : ℕ) (d : X) → i < length xs → list_any p xs ≡ false → p (get_or xs i d) ≡ false
  list_any-off [] i d l h = absurd (omega arith)
  list_any-off (x ∷ xs) zero d l h = (or_parts (p x) (list_any p xs) h).0
  list_any-off (x ∷ xs) (suc i) d l h = list_any-off xs i d (omega arith) (or_parts (p x) (list_any p xs) h).1

pub list_any-map : {X Y : Type 0} (p : Y → Bool) (f : X → Y) (xs : List X) → list_any p (map f xs) ≡ list_any (λ x. p (f x)) xs
list_any-map p f [] = refl
list_any-map p f (x ∷ xs) = ap (λ b. p (f x) || b) (list_any-map p f xs)

-- where no item is the same as a later one, none is the same as an earlier one
pub fresh_item : {X : Type 0} (same : X → X → Bool) (xs : List X) (i : ℕ) (d : X) → i < length xs → repeats same xs ≡ false
    → list_any (λ x. same (get_or xs i d) x) (take i xs) ≡ false
fresh_item same [] i d l h = absurd (omega arith)
fresh_item same (x ∷ xs) zero d l h = refl
fresh_item same (x ∷ xs) (suc i) d l h =
    let parts = or_parts (list_any (λ y. same y x) xs) (repeats same xs) h in
    or_from (same (get_or xs i d) x) (list_any (λ x. same (get_or xs i d) x) (take i xs)) (list_any-off (λ y. same y x) xs i d (omega arith) parts.0) (fresh_item same xs i d (omega arith) parts.1)

-- numbers that count on
pub range-next : (a n : ℕ) → range_with_len a (suc n) ≡ range_with_len a n ++ (a + n) ∷ []
range-next a zero = ap (λ m. m ∷ []) (omega arith)
range-next a (suc n) = ap (λ rest. a ∷ rest) (range-next (a + 1) n ∙ ap (λ m. range_with_len (a + 1) n ++ m ∷ []) (omega arith))
