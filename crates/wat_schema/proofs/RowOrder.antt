-- Rows in the order of their keys: one that comes, goes or is changed, and back.
use Rattle.std.proofs.Common.{◌≡◌, Bool, true, false, not, cond, ◌||◌, if◌then◌else◌, List, [], ◌∷◌, ◌++◌, map, filter, refl, sym, ap, ap₂, ◌∙◌, ◌⊎◌, inl, inr}
use Rattle.std.specs.declared.cmp.Ordering.{Ordering}
use Rattle.std.specs.declared.cmp.Ordering.TheVariants.{Less, Equal, Greater}
use Rattle.std.specs.Ordering.{is_lt, is_gt, is_eq, ordering_reverse}
use Rattle.std.specs.Cmp.{IsTotalOrder}
use Rattle.std.specs.List.{list_any, list_all}
use Rattle.std.proofs.lemmas.Bool.{and_parts, and_from, or_parts, or_left, or_right, cases_Bool}
use Rattle.std.proofs.lemmas.List.Folds.{list_any-append}
use Rattle.wat_list.specs.Rising.{rising}

pub less_is : (o : Ordering) → is_lt o ≡ true → o ≡ Less
less_is Less h = refl
less_is Equal h = cc
less_is Greater h = cc

module _ {X : Type 0} (q : X → Bool) where
  pub list_all-filter : (p : X → Bool) (xs : List X) → list_all q xs ≡ true → list_all q (filter p xs) ≡ true
  list_all-filter p [] h = refl
  list_all-filter p (x ∷ xs) h =
      let parts = and_parts (q x) (list_all q xs) h in
      let rest = list_all-filter p xs parts.1 in
      elim (p x) as (λ v. list_all q (cond v (x ∷ filter p xs) (filter p xs)) ≡ true) [
        | true ↦ and_from (q x) (list_all q (filter p xs)) parts.0 rest
        | false ↦ rest
      ]

  pub list_all-append : (xs ys : List X) → list_all q xs ≡ true → list_all q ys ≡ true → list_all q (xs ++ ys) ≡ true
  list_all-append [] ys h k = k
  list_all-append (x ∷ xs) ys h k =
      let parts = and_parts (q x) (list_all q xs) h in
      and_from (q x) (list_all q (xs ++ ys)) parts.0 (list_all-append xs ys parts.1 k)

  pub list_all-map : (f : X → X) → ((x : X) → q x ≡ true → q (f x) ≡ true) → (xs : List X) → list_all q xs ≡ true → list_all q (map f xs) ≡ true
  list_all-map f keeps [] h = refl
  list_all-map f keeps (x ∷ xs) h =
      let parts = and_parts (q x) (list_all q xs) h in
      and_from (q (f x)) (list_all q (map f xs)) (keeps x parts.0) (list_all-map f keeps xs parts.1)

  pub list_all-to : (r : X → Bool) → ((x : X) → q x ≡ true → r x ≡ true) → (xs : List X) → list_all q xs ≡ true → list_all r xs ≡ true
  list_all-to r goes [] h = refl
  list_all-to r goes (x ∷ xs) h =
      let parts = and_parts (q x) (list_all q xs) h in
      and_from (r x) (list_all r xs) (goes x parts.0) (list_all-to r goes xs parts.1)

-- `same` is equality of rows, and level rows have one key
module _ {X : Type 0} (cmp : X → X → Ordering) (same : X → X → Bool) (total : IsTotalOrder cmp)
    (itself : (x : X) → same x x ≡ true) (equal : (x y : X) → same x y ≡ true → x ≡ y) (level : (x : X) → cmp x x ≡ Equal) where
  abbrev put : X → List X → List X
  put r xs = filter (λ other. is_lt (cmp other r)) xs ++ r ∷ filter (λ other. is_gt (cmp other r)) xs

  abbrev below : X → List X → Bool
  below r xs = list_all (λ other. is_lt (cmp r other)) xs

  more : (a b : X) → cmp a b ≡ Less → cmp b a ≡ Greater
  more a b h = total.antisymm b a ∙ ap ordering_reverse h

  less : (a b : X) → cmp a b ≡ Greater → cmp b a ≡ Less
  less a b h = total.antisymm b a ∙ ap ordering_reverse h

  apart : (a b : X) (o : Ordering) → cmp a b ≡ o → is_eq o ≡ false → same a b ≡ false
  apart a b o h not_eq = elim (cases_Bool (same a b)) [
    | inl yes_same ↦ absurd (let e : is_eq o ≡ true = ap is_eq (sym h ∙ ap (cmp a) (sym (equal a b yes_same)) ∙ level a) in cc)
    | inr no_same ↦ no_same
  ]

  lower : (a b : X) (xs : List X) → cmp a b ≡ Less → below b xs ≡ true → below a xs ≡ true
  lower a b xs h = list_all-to (λ other. is_lt (cmp b other)) (λ other. is_lt (cmp a other)) (λ x g. ap is_lt (total.trans a b x h (less_is (cmp b x) g))) xs

  put_after : (r x : X) (xs : List X) → cmp x r ≡ Less → put r (x ∷ xs) ≡ x ∷ put r xs
  put_after r x xs h = rw h refl

  none_less : (r : X) (xs : List X) → below r xs ≡ true → filter (λ other. is_lt (cmp other r)) xs ≡ []
  none_less r [] h = refl
  none_less r (x ∷ xs) h =
      let parts = and_parts (is_lt (cmp r x)) (below r xs) h in
      let greater = more r x (less_is (cmp r x) parts.0) in
      rw greater (none_less r xs parts.1)

  all_greater : (r : X) (xs : List X) → below r xs ≡ true → filter (λ other. is_gt (cmp other r)) xs ≡ xs
  all_greater r [] h = refl
  all_greater r (x ∷ xs) h =
      let parts = and_parts (is_lt (cmp r x)) (below r xs) h in
      let greater = more r x (less_is (cmp r x) parts.0) in
      rw greater (ap (λ ys. x ∷ ys) (all_greater r xs parts.1))

  put_before : (r : X) (xs : List X) → below r xs ≡ true → put r xs ≡ r ∷ xs
  put_before r xs h = rw (none_less r xs h, all_greater r xs h) refl

  others : (r : X) (xs : List X) → below r xs ≡ true → filter (λ x. not (same x r)) xs ≡ xs
  others r [] h = refl
  others r (x ∷ xs) h =
      let parts = and_parts (is_lt (cmp r x)) (below r xs) h in
      let other = apart x r Greater (more r x (less_is (cmp r x) parts.0)) refl in
      rw other (ap (λ ys. x ∷ ys) (others r xs parts.1))

  none_level : (r : X) (xs : List X) → below r xs ≡ true → list_any (λ x. is_eq (cmp x r)) xs ≡ false
  none_level r [] h = refl
  none_level r (x ∷ xs) h =
      let parts = and_parts (is_lt (cmp r x)) (below r xs) h in
      let greater = more r x (less_is (cmp r x) parts.0) in
      rw greater (none_level r xs parts.1)

  -- a row of the list is above what is below the list
  pub among : (q : X → Bool) (r : X) (xs : List X) → list_all q xs ≡ true → list_any (same r) xs ≡ true → q r ≡ true
  among q r [] h k = absurd (let no : false ≡ true = k in cc)
  among q r (x ∷ xs) h k =
      let parts = and_parts (q x) (list_all q xs) h in
      elim (cases_Bool (same r x)) [
        | inl here ↦ ap q (equal r x here) ∙ parts.0
        | inr there ↦ among q r xs parts.1 (let rest : (same r x || list_any (same r) xs) ≡ true = k in rw there at rest)
      ]

  -- ---- a row that comes

  pub list_all-put : (q : X → Bool) (r : X) (xs : List X) → list_all q xs ≡ true → q r ≡ true → list_all q (put r xs) ≡ true
  list_all-put q r xs h k =
      list_all-append q (filter (λ other. is_lt (cmp other r)) xs) (r ∷ filter (λ other. is_gt (cmp other r)) xs)
      (list_all-filter q (λ other. is_lt (cmp other r)) xs h)
      (and_from (q r) (list_all q (filter (λ other. is_gt (cmp other r)) xs)) k (list_all-filter q (λ other. is_gt (cmp other r)) xs h))

  pub has-put : (r : X) (xs : List X) → list_any (same r) (put r xs) ≡ true
  has-put r xs =
      list_any-append (same r) (filter (λ other. is_lt (cmp other r)) xs) (r ∷ filter (λ other. is_gt (cmp other r)) xs)
      ∙ or_right (list_any (same r) (filter (λ other. is_lt (cmp other r)) xs)) (list_any (same r) (r ∷ filter (λ other. is_gt (cmp other r)) xs))
      (or_left (same r r) (list_any (same r) (filter (λ other. is_gt (cmp other r)) xs)) (itself r))

  pub rising-put : (r : X) (xs : List X) → rising cmp xs ≡ true → list_any (λ x. is_eq (cmp x r)) xs ≡ false → rising cmp (put r xs) ≡ true
  rising-put r [] h k = refl
  rising-put r (x ∷ xs) h k = by (rising-put r xs parts.1 free.1) (cmp x r) refl
    where
      parts : (below x xs ≡ true) × (rising cmp xs ≡ true)
      parts = and_parts (below x xs) (rising cmp xs) h

      free : (is_eq (cmp x r) ≡ false) × (list_any (λ x. is_eq (cmp x r)) xs ≡ false)
      free = or_parts (is_eq (cmp x r)) (list_any (λ x. is_eq (cmp x r)) xs) k

      by : rising cmp (put r xs) ≡ true → (o : Ordering) → cmp x r ≡ o → rising cmp (put r (x ∷ xs)) ≡ true
      by rest Less e =
          rw (put_after r x xs e) (and_from (below x (put r xs)) (rising cmp (put r xs))
          (list_all-put (λ other. is_lt (cmp x other)) r xs parts.0 (ap is_lt e)) rest)
      by rest Equal e = absurd (let no : is_eq (cmp x r) ≡ true = ap is_eq e in cc)
      by rest Greater e =
          let first = less x r e in
          let all : below r (x ∷ xs) ≡ true = and_from (is_lt (cmp r x)) (below r xs) (ap is_lt first) (lower r x xs first parts.0) in
          rw (put_before r (x ∷ xs) all) (and_from (below r (x ∷ xs)) (rising cmp (x ∷ xs)) all h)

  pub remove-put : (r : X) (xs : List X) → rising cmp xs ≡ true → list_any (λ x. is_eq (cmp x r)) xs ≡ false → filter (λ x. not (same x r)) (put r xs) ≡ xs
  remove-put r [] h k = rw (itself r) refl
  remove-put r (x ∷ xs) h k = by (remove-put r xs parts.1 free.1) (cmp x r) refl
    where
      parts : (below x xs ≡ true) × (rising cmp xs ≡ true)
      parts = and_parts (below x xs) (rising cmp xs) h

      free : (is_eq (cmp x r) ≡ false) × (list_any (λ x. is_eq (cmp x r)) xs ≡ false)
      free = or_parts (is_eq (cmp x r)) (list_any (λ x. is_eq (cmp x r)) xs) k

      by : filter (λ x. not (same x r)) (put r xs) ≡ xs → (o : Ordering) → cmp x r ≡ o → filter (λ x. not (same x r)) (put r (x ∷ xs)) ≡ x ∷ xs
      by rest Less e = rw (put_after r x xs e, apart x r Less e refl) (ap (λ ys. x ∷ ys) rest)
      by rest Equal e = absurd (let no : is_eq (cmp x r) ≡ true = ap is_eq e in cc)
      by rest Greater e =
          let first = less x r e in
          let all : below r (x ∷ xs) ≡ true = and_from (is_lt (cmp r x)) (below r xs) (ap is_lt first) (lower r x xs first parts.0) in
          rw (put_before r (x ∷ xs) all, itself r) (others r (x ∷ xs) all)

  -- ---- a row that goes

  pub rising-filter : (p : X → Bool) (xs : List X) → rising cmp xs ≡ true → rising cmp (filter p xs) ≡ true
  rising-filter p [] h = refl
  rising-filter p (x ∷ xs) h =
      let parts = and_parts (below x xs) (rising cmp xs) h in
      let rest = rising-filter p xs parts.1 in
      elim (p x) as (λ v. rising cmp (cond v (x ∷ filter p xs) (filter p xs)) ≡ true) [
        | true ↦ and_from (below x (filter p xs)) (rising cmp (filter p xs)) (list_all-filter (λ other. is_lt (cmp x other)) p xs parts.0) rest
        | false ↦ rest
      ]

  -- the first row is the one, or is below it
  record First (r x : X) (xs : List X) : Type 0 where
    under : cmp x r ≡ Less
    there : list_any (same r) xs ≡ true

  first : (r x : X) (xs : List X) → below x xs ≡ true → list_any (same r) (x ∷ xs) ≡ true → (r ≡ x) ⊎ First r x xs
  first r x xs h k = elim (cases_Bool (same r x)) [
    | inl here ↦ inl (equal r x here)
    | inr other ↦
        let rest : (same r x || list_any (same r) xs) ≡ true = k in
        let there : list_any (same r) xs ≡ true = rw other at rest in
        inr (record { under = less_is (cmp x r) (among (λ y. is_lt (cmp x y)) r xs h there); there = there })
  ]

  pub put-remove : (r : X) (xs : List X) → rising cmp xs ≡ true → list_any (same r) xs ≡ true → put r (filter (λ x. not (same x r)) xs) ≡ xs
  put-remove r [] h k = absurd (let no : false ≡ true = k in cc)
  put-remove r (x ∷ xs) h k = elim (first r x xs parts.0 k) [
    | inl here ↦
        let gone : same x r ≡ true = ap (same x) here ∙ itself x in
        let all : below r xs ≡ true = ap (λ y. below y xs) here ∙ parts.0 in
        rw (gone, others r xs all) (put_before r xs all ∙ ap (λ y. y ∷ xs) here)
    | inr f ↦ rw (apart x r Less f.under refl) (put_after r x (filter (λ x. not (same x r)) xs) f.under ∙ ap (λ ys. x ∷ ys) (put-remove r xs parts.1 f.there))
  ]
    where
      parts : (below x xs ≡ true) × (rising cmp xs ≡ true)
      parts = and_parts (below x xs) (rising cmp xs) h

  pub gone-remove : (r : X) (xs : List X) → rising cmp xs ≡ true → list_any (same r) xs ≡ true
      → list_any (λ x. is_eq (cmp x r)) (filter (λ x. not (same x r)) xs) ≡ false
  gone-remove r [] h k = refl
  gone-remove r (x ∷ xs) h k = elim (first r x xs parts.0 k) [
    | inl here ↦
        let gone : same x r ≡ true = ap (same x) here ∙ itself x in
        let all : below r xs ≡ true = ap (λ y. below y xs) here ∙ parts.0 in
        rw (gone, others r xs all) (none_level r xs all)
    | inr f ↦ rw (apart x r Less f.under refl, f.under) (gone-remove r xs parts.1 f.there)
  ]
    where
      parts : (below x xs ≡ true) × (rising cmp xs ≡ true)
      parts = and_parts (below x xs) (rising cmp xs) h

  -- ---- a row that is changed

  module _ (before after : X) (key : (x : X) → cmp after x ≡ cmp before x) where
    abbrev change : X → X
    change x = if same x before then after else x

    abbrev back : X → X
    back x = if same x after then before else x

    right : (x : X) → cmp x after ≡ cmp x before
    right x = total.antisymm x after ∙ ap ordering_reverse (key x) ∙ sym (total.antisymm x before)

    change_left : (x y : X) → cmp (change x) y ≡ cmp x y
    change_left x y = elim (cases_Bool (same x before)) [
      | inl here ↦ rw here (key y ∙ ap (λ z. cmp z y) (sym (equal x before here)))
      | inr other ↦ rw other refl
    ]

    change_right : (x y : X) → cmp x (change y) ≡ cmp x y
    change_right x y = elim (cases_Bool (same y before)) [
      | inl here ↦ rw here (right x ∙ ap (cmp x) (sym (equal y before here)))
      | inr other ↦ rw other refl
    ]

    below-change : (x : X) (xs : List X) → below x xs ≡ true → below (change x) (map change xs) ≡ true
    below-change x [] h = refl
    below-change x (y ∷ ys) h =
        let parts = and_parts (is_lt (cmp x y)) (below x ys) h in
        and_from (is_lt (cmp (change x) (change y))) (below (change x) (map change ys))
        (ap is_lt (change_left x (change y) ∙ change_right x y) ∙ parts.0) (below-change x ys parts.1)

    pub rising-change : (xs : List X) → rising cmp xs ≡ true → rising cmp (map change xs) ≡ true
    rising-change [] h = refl
    rising-change (x ∷ xs) h =
        let parts = and_parts (below x xs) (rising cmp xs) h in
        and_from (below (change x) (map change xs)) (rising cmp (map change xs)) (below-change x xs parts.0) (rising-change xs parts.1)

    pub list_all-change : (q : X → Bool) → q after ≡ true → (xs : List X) → list_all q xs ≡ true → list_all q (map change xs) ≡ true
    list_all-change q passes = list_all-map q change (λ x h. elim (cases_Bool (same x before)) [
      | inl here ↦ rw here passes
      | inr other ↦ rw other h
    ])

    pub has-change : (xs : List X) → list_any (same before) xs ≡ true → list_any (same after) (map change xs) ≡ true
    has-change [] k = absurd (let no : false ≡ true = k in cc)
    has-change (x ∷ xs) k = elim (cases_Bool (same before x)) [
      | inl here ↦
          let changed : same x before ≡ true = ap (λ y. same y before) (sym (equal before x here)) ∙ itself before in
          or_left (same after (change x)) (list_any (same after) (map change xs)) (rw changed (itself after))
      | inr other ↦
          let rest : (same before x || list_any (same before) xs) ≡ true = k in
          or_right (same after (change x)) (list_any (same after) (map change xs)) (has-change xs (rw other at rest))
    ]

    unchanged : (xs : List X) → below before xs ≡ true → map back (map change xs) ≡ xs
    unchanged [] h = refl
    unchanged (x ∷ xs) h =
        let parts = and_parts (is_lt (cmp before x)) (below before xs) h in
        let greater = more before x (less_is (cmp before x) parts.0) in
        rw (apart x before Greater greater refl, apart x after Greater (right x ∙ greater) refl) (ap (λ ys. x ∷ ys) (unchanged xs parts.1))

    pub back-change : (xs : List X) → rising cmp xs ≡ true → list_any (same before) xs ≡ true → map back (map change xs) ≡ xs
    back-change [] h k = absurd (let no : false ≡ true = k in cc)
    back-change (x ∷ xs) h k = elim (first before x xs parts.0 k) [
      | inl here ↦
          let changed : same x before ≡ true = ap (same x) here ∙ itself x in
          let all : below before xs ≡ true = ap (λ y. below y xs) here ∙ parts.0 in
          rw (changed, itself after) (ap₂ (λ y ys. y ∷ ys) here (unchanged xs all))
      | inr f ↦ rw (apart x before Less f.under refl, apart x after Less (right x ∙ f.under) refl) (ap (λ ys. x ∷ ys) (back-change xs parts.1 f.there))
    ]
      where
        parts : (below x xs ≡ true) × (rising cmp xs ≡ true)
        parts = and_parts (below x xs) (rising cmp xs) h
