-- Lists in which nothing comes twice.
use Rattle.std.proofs.Common.{◌≡◌, ℕ, ◌≤◌, Bool, true, false, ◌||◌, cond, List, [], ◌∷◌, ◌++◌, filter, length, suc, Some, None, is_none, inl, inr, ◌==◌, refl, sym, ap, ◌∙◌, arith}
use Rattle.std.specs.List.{find, flat_map, list_all, list_any}
use Rattle.std.proofs.lemmas.Bool.{and_parts, and_from, or_parts, or_from, ne_eqb, cases_Bool}
use Rattle.std.proofs.lemmas.List.Folds.{list_any-append}
use Rattle.wat_schema.specs.Catalog.{ascend, repeats}
use Rattle.wat_schema.proofs.Order.{begins}

module _ {X : Type 0} (same : X → X → Bool) where
  -- an item is none of those before it
  pub fresh_before : (xs : List X) (x : X) (ys : List X) → repeats same (xs ++ x ∷ ys) ≡ false → list_any (λ y. same x y) xs ≡ false
  fresh_before [] x ys h = refl
  fresh_before (y ∷ xs) x ys h =
      let parts = or_parts (list_any (λ z. same z y) (xs ++ x ∷ ys)) (repeats same (xs ++ x ∷ ys)) h in
      let later = or_parts (list_any (λ z. same z y) xs) (same x y || list_any (λ z. same z y) ys) (sym (list_any-append (λ z. same z y) xs (x ∷ ys)) ∙ parts.0) in
      let here = or_parts (same x y) (list_any (λ z. same z y) ys) later.1 in
      or_from (same x y) (list_any (λ y. same x y) xs) here.0 (fresh_before xs x ys parts.1)

  -- nor is it one of those after it
  pub fresh_after : (xs : List X) (x : X) (ys : List X) → repeats same (xs ++ x ∷ ys) ≡ false → list_any (λ y. same y x) ys ≡ false
  fresh_after [] x ys h = (or_parts (list_any (λ z. same z x) ys) (repeats same ys) h).0
  fresh_after (y ∷ xs) x ys h = fresh_after xs x ys (or_parts (list_any (λ z. same z y) (xs ++ x ∷ ys)) (repeats same (xs ++ x ∷ ys)) h).1

pub find_none : {X : Type 0} (p : X → Bool) (xs : List X) → list_any p xs ≡ false → is_none (find p xs) ≡ true
find_none p [] h = refl
find_none p (x ∷ xs) h = let parts = or_parts (p x) (list_any p xs) h in rw parts.0 (find_none p xs parts.1)

-- what is found in the midst of others
pub find_here : {X : Type 0} (p : X → Bool) (xs : List X) (x : X) (ys : List X) → list_any p xs ≡ false → p x ≡ true → find p (xs ++ x ∷ ys) ≡ Some x
find_here p [] x ys h is = rw is refl
find_here p (y ∷ xs) x ys h is = let parts = or_parts (p y) (list_any p xs) h in rw parts.0 (find_here p xs x ys parts.1 is)

-- a number that is not above the lower bound is none of them
lesser : (n low : ℕ) (ns : List ℕ) (high : ℕ) → n ≤ low → ascend low ns high ≡ true → list_any (λ m. m == n) ns ≡ false
lesser n low [] high l h = refl
lesser n low (m ∷ ns) high l h =
    let b = begins low m ns high h in
    or_from (m == n) (list_any (λ m. m == n) ns) (ne_eqb m n (λ e. omega arith)) (lesser n m ns high (omega arith) b.rest)

pub ascend_distinct : (low : ℕ) (ns : List ℕ) (high : ℕ) → ascend low ns high ≡ true → repeats ◌==◌ ns ≡ false
ascend_distinct low [] high h = refl
ascend_distinct low (n ∷ ns) high h =
    let b = begins low n ns high h in
    or_from (list_any (λ m. m == n) ns) (repeats ◌==◌ ns) (lesser n n ns high (omega arith) b.rest) (ascend_distinct n ns high b.rest)

module _ {X : Type 0} (same : X → X → Bool) where
  -- a new one goes last
  pub distinct_push : (xs : List X) (x : X) → repeats same xs ≡ false → list_any (λ y. same x y) xs ≡ false → repeats same (xs ++ x ∷ []) ≡ false
  distinct_push [] x h fresh = refl
  distinct_push (y ∷ xs) x h fresh =
      let parts = or_parts (list_any (λ z. same z y) xs) (repeats same xs) h in
      let others = or_parts (same x y) (list_any (λ y. same x y) xs) fresh in
      or_from (list_any (λ z. same z y) (xs ++ x ∷ [])) (repeats same (xs ++ x ∷ []))
      (list_any-append (λ z. same z y) xs (x ∷ []) ∙ or_from (list_any (λ z. same z y) xs) (same x y || false) parts.0 (or_from (same x y) false others.0 refl))
      (distinct_push xs x parts.1 others.1)

  -- a new one goes between
  pub distinct_insert : (xs : List X) (x : X) (ys : List X) → repeats same (xs ++ ys) ≡ false → list_any (λ y. same x y) xs ≡ false → list_any (λ y. same y x) ys ≡ false
      → repeats same (xs ++ x ∷ ys) ≡ false
  distinct_insert [] x ys h before after = or_from (list_any (λ y. same y x) ys) (repeats same ys) after h
  distinct_insert (y ∷ xs) x ys h before after =
      let parts = or_parts (list_any (λ z. same z y) (xs ++ ys)) (repeats same (xs ++ ys)) h in
      let later = or_parts (list_any (λ z. same z y) xs) (list_any (λ z. same z y) ys) (sym (list_any-append (λ z. same z y) xs ys) ∙ parts.0) in
      let others = or_parts (same x y) (list_any (λ y. same x y) xs) before in
      or_from (list_any (λ z. same z y) (xs ++ x ∷ ys)) (repeats same (xs ++ x ∷ ys))
      (list_any-append (λ z. same z y) xs (x ∷ ys)
      ∙ or_from (list_any (λ z. same z y) xs) (same x y || list_any (λ z. same z y) ys) later.0 (or_from (same x y) (list_any (λ z. same z y) ys) others.0 later.1))
      (distinct_insert xs x ys parts.1 others.1 after)

  distinct_rest : (xs ys : List X) → repeats same (xs ++ ys) ≡ false → repeats same ys ≡ false
  distinct_rest [] ys h = h
  distinct_rest (x ∷ xs) ys h = distinct_rest xs ys (or_parts (list_any (λ z. same z x) (xs ++ ys)) (repeats same (xs ++ ys)) h).1

  distinct_front : (xs ys zs : List X) → ((q : X → Bool) → list_any q ys ≡ false → list_any q zs ≡ false) → repeats same zs ≡ false → repeats same (xs ++ ys) ≡ false → repeats same (xs ++ zs) ≡ false
  distinct_front [] ys zs fewer distinct h = distinct
  distinct_front (x ∷ xs) ys zs fewer distinct h =
      let parts = or_parts (list_any (λ z. same z x) (xs ++ ys)) (repeats same (xs ++ ys)) h in
      let later = or_parts (list_any (λ z. same z x) xs) (list_any (λ z. same z x) ys) (sym (list_any-append (λ z. same z x) xs ys) ∙ parts.0) in
      or_from (list_any (λ z. same z x) (xs ++ zs)) (repeats same (xs ++ zs))
      (list_any-append (λ z. same z x) xs zs ∙ or_from (list_any (λ z. same z x) xs) (list_any (λ z. same z x) zs) later.0 (fewer (λ z. same z x) later.1))
      (distinct_front xs ys zs fewer distinct parts.1)

  module _ {Y : Type 0} (f : Y → List X) (p : Y → Bool) where
    fewer : (ys : List Y) (q : X → Bool) → list_any q (flat_map f ys) ≡ false → list_any q (flat_map f (filter p ys)) ≡ false
    fewer [] q h = refl
    fewer (y ∷ ys) q h =
        let parts = or_parts (list_any q (f y)) (list_any q (flat_map f ys)) (sym (list_any-append q (f y) (flat_map f ys)) ∙ h) in
        let rest = fewer ys q parts.1 in
        elim (p y) as (λ v. list_any q (flat_map f (cond v (y ∷ filter p ys) (filter p ys))) ≡ false) [
          | true ↦ list_any-append q (f y) (flat_map f (filter p ys)) ∙ or_from (list_any q (f y)) (list_any q (flat_map f (filter p ys))) parts.0 rest
          | false ↦ rest
        ]

    pub distinct_filter : (ys : List Y) → repeats same (flat_map f ys) ≡ false → repeats same (flat_map f (filter p ys)) ≡ false
    distinct_filter [] h = refl
    distinct_filter (y ∷ ys) h =
        let rest = distinct_filter ys (distinct_rest (f y) (flat_map f ys) h) in
        elim (p y) as (λ v. repeats same (flat_map f (cond v (y ∷ filter p ys) (filter p ys))) ≡ false) [
          | true ↦ distinct_front (f y) (flat_map f ys) (flat_map f (filter p ys)) (fewer ys) rest h
          | false ↦ rest
        ]

module _ {X : Type 0} (p q : X → Bool) where
  pub list_all-filter : (xs : List X) → list_all q xs ≡ true → list_all q (filter p xs) ≡ true
  list_all-filter [] h = refl
  list_all-filter (x ∷ xs) h =
      let parts = and_parts (q x) (list_all q xs) h in
      let rest = list_all-filter xs parts.1 in
      elim (p x) as (λ v. list_all q (cond v (x ∷ filter p xs) (filter p xs)) ≡ true) [
        | true ↦ and_from (q x) (list_all q (filter p xs)) parts.0 rest
        | false ↦ rest
      ]

  pub filter_shorter : (xs : List X) → length (filter p xs) ≤ length xs
  filter_shorter [] = omega arith
  filter_shorter (x ∷ xs) =
      let rest = filter_shorter xs in
      elim (p x) as (λ v. length (cond v (x ∷ filter p xs) (filter p xs)) ≤ suc (length xs)) [
        | true ↦ omega arith
        | false ↦ omega arith
      ]

-- what is found stands after those that are not it
pub record Found {X : Type 0} (p : X → Bool) (xs : List X) (x : X) : Type 0 where
  pub before : List X
  pub after : List X
  pub is : xs ≡ before ++ x ∷ after
  pub earlier : list_any p before ≡ false
  pub here : p x ≡ true

pub found_at : {X : Type 0} (p : X → Bool) (xs : List X) (x : X) → find p xs ≡ Some x → Found p xs x
found_at p [] x h = absurd (let no : None ≡ Some x = h in cc)
found_at {X = X} p (y ∷ xs) x h = elim (cases_Bool (p y)) [
  | inl is_it ↦
      let same : Some y ≡ Some x = sym (ap (λ v. cond v (Some y) (find p xs)) is_it) ∙ h in
      let it : y ≡ x = cc in
      record { before = []; after = xs; is = ap (λ z. z ∷ xs) it; earlier = refl; here = ap p (sym it) ∙ is_it }
  | inr is_not ↦
      let there = found_at p xs x (sym (ap (λ v. cond v (Some y) (find p xs)) is_not) ∙ h) in
      record { before = y ∷ there.before; after = there.after; is = ap (λ zs. y ∷ zs) there.is; earlier = or_from (p y) (list_any p there.before) is_not there.earlier; here = there.here }
]
