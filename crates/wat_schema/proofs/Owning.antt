-- The names of indexes beside the tables that have the indexes.
use Rattle.std.proofs.Common.{◌≡◌, ℕ, ◌==◌, Bool, true, false, not, cond, ◌&&◌, ◌||◌, List, [], ◌∷◌, ◌++◌, map, filter, get_or, set, slice_get, zero, suc, Option, Some, None, is_some, refl, sym, ap, ◌∙◌, inl, inr}
use Rattle.std.specs.Cmp.{both_ways}
use Rattle.std.specs.List.{list_any}
use Rattle.std.specs.Map.{lookup}
use Rattle.std.specs.Str.{bytes_eq}
use Rattle.std.proofs.lemmas.Bool.{and_parts, and_from, or_cases, or_left, or_right, eq-eqb, eqb-true, eqb-false, ne_eqb, cases_Bool}
use Rattle.std.proofs.lemmas.List.Folds.{list_any-append, Any-from_list_any, list_any_at}
use Rattle.wat_value.specs.declared.definition.TableDef.{TableDef}
use Rattle.wat_value.specs.declared.definition.IndexDef.{IndexDef}
use Rattle.wat_schema.specs.Catalog.{Name, Listing, has_index}
use Rattle.wat_schema.specs.Definitions.{with_index}
use Rattle.wat_schema.specs.Kept.{has_index_at, IsOwned}

-- ---- a map of names

is_some-lookup : {K X : Type 0} (test : K → Bool) (es : List (K × X)) → is_some (lookup test es) ≡ list_any (λ e. test e.0) es
is_some-lookup test [] = refl
is_some-lookup test (e ∷ es) = elim (test e.0) as (λ v. is_some (cond v (Some e.1) (lookup test es)) ≡ (v || list_any (λ e. test e.0) es)) [
  | true ↦ refl
  | false ↦ is_some-lookup test es
]

pub lookup-fresh : {K X : Type 0} (test : K → Bool) (es : List (K × X)) → list_any (λ e. test e.0) es ≡ false → lookup test es ≡ None
lookup-fresh {X = X} test es none = by (lookup test es) refl
  where
    by : (o : Option X) → lookup test es ≡ o → lookup test es ≡ None
    by None e = e
    by (Some x) e = let no : true ≡ false = sym (ap is_some e) ∙ is_some-lookup test es ∙ none in cc

module _ {K : Type 0} (bytes : K → Name) where
  abbrev pub pairs : List (K × ℕ) → List (Name × ℕ)
  pairs es = map (λ e. (bytes e.0, e.1)) es

  pub list_any-pairs : (p : Name → Bool) (es : List (K × ℕ)) → list_any (λ e. p e.0) (pairs es) ≡ list_any (λ e. p (bytes e.0)) es
  list_any-pairs p [] = refl
  list_any-pairs p (e ∷ es) = ap (λ b. p (bytes e.0) || b) (list_any-pairs p es)

  pub contains-pairs : (p : Name → Bool) (es : List (K × ℕ)) → is_some (lookup (λ k. p (bytes k)) es) ≡ list_any (λ e. p e.0) (pairs es)
  contains-pairs p es = is_some-lookup (λ k. p (bytes k)) es ∙ sym (list_any-pairs p es)

  pub filter-pairs : (n : ℕ) (es : List (K × ℕ)) → pairs (filter (λ e. not (n == e.1)) es) ≡ filter (λ e. not (n == e.1)) (pairs es)
  filter-pairs n [] = refl
  filter-pairs n (e ∷ es) = elim (n == e.1) as (λ v. pairs (cond (not v) (e ∷ filter (λ e. not (n == e.1)) es) (filter (λ e. not (n == e.1)) es)) ≡ cond (not v) ((bytes e.0, e.1) ∷ filter (λ e. not (n == e.1)) (pairs es)) (filter (λ e. not (n == e.1)) (pairs es))) [
    | true ↦ filter-pairs n es
    | false ↦ ap (λ rest. (bytes e.0, e.1) ∷ rest) (filter-pairs n es)
  ]

-- ---- who has what

module _ {X : Type 0} (q r : X → Bool) (goes : (x : X) → q x ≡ true → r x ≡ true) where
  list_any-to : (xs : List X) → list_any q xs ≡ true → list_any r xs ≡ true
  list_any-to [] h = h
  list_any-to (x ∷ xs) h = elim (or_cases (q x) (list_any q xs) h) [
    | inl here ↦ or_left (r x) (list_any r xs) (goes x here)
    | inr there ↦ or_right (r x) (list_any r xs) (list_any-to xs there)
  ]

module _ {X Y : Type 0} (f : X → ℕ) (q : X → Bool) (g : Y → ℕ) (r : Y → Bool) where
  -- what one list has under a number, the other has under some number
  has_too : (xs : List X) (ys : List Y) → ((k : ℕ) → list_any (λ x. k == f x && q x) xs ≡ list_any (λ y. k == g y && r y) ys) → list_any q xs ≡ true → list_any r ys ≡ true
  has_too xs ys alike h =
      let found = Any-from_list_any q xs h in
      let item : get_or xs found.0 found.1 ≡ found.1 = found.3 in
      let passes : (f found.1 == f (get_or xs found.0 found.1) && q (get_or xs found.0 found.1)) ≡ true =
      and_from (f found.1 == f (get_or xs found.0 found.1)) (q (get_or xs found.0 found.1))
      (eq-eqb (f found.1) (f (get_or xs found.0 found.1)) (ap f (sym item))) (ap q item ∙ found.4) in
      let there = list_any_at (λ x. f found.1 == f x && q x) xs found.0 found.1 found.2 passes in
      list_any-to (λ y. f found.1 == g y && r y) r (λ y both. (and_parts (f found.1 == g y) (r y) both).1) ys (sym (alike (f found.1)) ∙ there)

pub alike_everywhere : {X Y : Type 0} (f : X → ℕ) (q : X → Bool) (g : Y → ℕ) (r : Y → Bool) (xs : List X) (ys : List Y)
    → ((k : ℕ) → list_any (λ x. k == f x && q x) xs ≡ list_any (λ y. k == g y && r y) ys) → list_any q xs ≡ list_any r ys
alike_everywhere f q g r xs ys alike =
    both_ways (list_any q xs) (list_any r ys) (has_too f q g r xs ys alike) (has_too g r f q ys xs (λ k. sym (alike k)))

-- ---- a table goes

module _ {X : Type 0} (f : X → ℕ) (q : X → Bool) (d k : ℕ) where
  pub list_any-gone : (xs : List X) → list_any (λ x. k == f x && q x) (filter (λ x. not (d == f x)) xs) ≡ (not (d == k) && list_any (λ x. k == f x && q x) xs)
  list_any-gone [] = elim (d == k) as (λ v. false ≡ (not v && false)) [ true ↦ refl | false ↦ refl ]
  list_any-gone (x ∷ xs) = elim (cases_Bool (d == f x)) [
    | inl goes ↦
        let is : d ≡ f x = eqb-true d (f x) goes in
        rw goes (list_any-gone xs ∙ elim (cases_Bool (d == k)) [
          | inl yes_k ↦ rw yes_k refl
          | inr no_k ↦
              let other : (k == f x) ≡ false = ne_eqb k (f x) (λ e. eqb-false d k no_k (is ∙ sym e)) in
              rw (no_k, other) refl
        ])
    | inr stays ↦
        rw (stays, list_any-gone xs) (elim (cases_Bool (d == k)) [
          | inl yes_k ↦
              let is : d ≡ k = eqb-true d k yes_k in
              let other : (k == f x) ≡ false = ne_eqb k (f x) (λ e. eqb-false d (f x) stays (is ∙ e)) in
              rw (yes_k, other) refl
          | inr no_k ↦ rw no_k refl
        ])
  ]

pub owned_without : (owners : List (Name × ℕ)) (tables : List Listing) (d : ℕ) → IsOwned owners tables
    → IsOwned (filter (λ e. not (d == e.1)) owners) (filter (λ t. not (d == t.def.number)) tables)
owned_without owners tables d is = record {
  alike = λ n k.
      list_any-gone (λ e. e.1) (λ e. bytes_eq n e.0) d k owners ∙ ap (λ b. not (d == k) && b) (is.alike n k)
      ∙ sym (list_any-gone (λ t. t.def.number) (has_index n) d k tables);
}

-- ---- a table comes

pub owned_with : (owners : List (Name × ℕ)) (tables : List Listing) (def : TableDef) → IsOwned owners tables
    → IsOwned owners (tables ++ record { def = def; indexes = [] } ∷ [])
owned_with owners tables def is = record {
  alike = λ n k.
      let t : Listing = record { def = def; indexes = [] } in
      let none : list_any (λ t. k == t.def.number && has_index n t) (t ∷ []) ≡ false = elim (k == def.number) as (λ v. ((v && false) || false) ≡ false) [ true ↦ refl | false ↦ refl ] in
      is.alike n k ∙ sym (list_any-append (λ t. k == t.def.number && has_index n t) tables (t ∷ []) ∙ ap (λ b. list_any (λ t. k == t.def.number && has_index n t) tables || b) none
      ∙ elim (list_any (λ t. k == t.def.number && has_index n t) tables) as (λ v. (v || false) ≡ v) [ true ↦ refl | false ↦ refl ]);
}

-- ---- an index comes

here : (a h b r s : Bool) → ((a && (h || (b || false))) || (r || (s && (a && b)))) ≡ (((a && h) || r) || ((true || s) && (a && b)))
here true true b r s = refl
here true false true true s = refl
here true false true false s = refl
here true false false true s = refl
here true false false false true = refl
here true false false false false = refl
here false h b true s = refl
here false h b false true = refl
here false h b false false = refl

elsewhere : (p r c : Bool) → (p || (r || c)) ≡ ((p || r) || c)
elsewhere true r c = refl
elsewhere false r c = refl

module _ (index : IndexDef) (n : Name) (k : ℕ) where
  indexed_has : (t : Listing) → has_index n (record t { indexes = t.indexes ++ index ∷ [] }) ≡ (has_index n t || (bytes_eq n index.name || false))
  indexed_has t = list_any-append (λ i. bytes_eq n i.name) t.indexes (index ∷ [])

  has_more : (tables : List Listing) → has_index_at n k (map (with_index index) tables)
      ≡ (has_index_at n k tables || (list_any (λ t. index.table == t.def.number) tables && (k == index.table && bytes_eq n index.name)))
  has_more [] = refl
  has_more (t ∷ ts) = elim (cases_Bool (index.table == t.def.number)) [
    | inl is ↦
        let same : (k == index.table) ≡ (k == t.def.number) = ap (λ m. k == m) (eqb-true index.table t.def.number is) in
        rw (is, indexed_has t, has_more ts, same)
        (here (k == t.def.number) (has_index n t) (bytes_eq n index.name) (has_index_at n k ts) (list_any (λ t. index.table == t.def.number) ts))
    | inr other ↦
        rw (other, has_more ts)
        (elsewhere (k == t.def.number && has_index n t) (has_index_at n k ts) (list_any (λ t. index.table == t.def.number) ts && (k == index.table && bytes_eq n index.name)))
  ]

or_none : (a b : Bool) → (a || (b || false)) ≡ (a || b)
or_none true b = refl
or_none false true = refl
or_none false false = refl

pub owned_more : (owners : List (Name × ℕ)) (tables : List Listing) (index : IndexDef) → IsOwned owners tables → list_any (λ t. index.table == t.def.number) tables ≡ true
    → IsOwned (owners ++ (index.name, index.table) ∷ []) (map (with_index index) tables)
owned_more owners tables index is stands = record {
  alike = λ n k.
      list_any-append (λ e. k == e.1 && bytes_eq n e.0) owners ((index.name, index.table) ∷ [])
      ∙ ap (λ b. b || ((k == index.table && bytes_eq n index.name) || false)) (is.alike n k)
      ∙ or_none (has_index_at n k tables) (k == index.table && bytes_eq n index.name)
      ∙ sym (has_more index n k tables ∙ ap (λ b. has_index_at n k tables || (b && (k == index.table && bytes_eq n index.name))) stands);
}

pub set-same : {X : Type 0} (xs : List X) (i : ℕ) (x : X) → slice_get xs i ≡ Some x → set xs i x ≡ xs
set-same [] i x at = refl
set-same (y ∷ ys) zero x at = let same : y ≡ x = cc in ap (λ a. a ∷ ys) (sym same)
set-same (y ∷ ys) (suc i) x at = ap (λ rest. y ∷ rest) (set-same ys i x at)

pub stands_at : {X : Type 0} (p : X → Bool) (xs : List X) (i : ℕ) (x : X) → slice_get xs i ≡ Some x → p x ≡ true → list_any p xs ≡ true
stands_at p [] i x at h = let no : None ≡ Some x = at in cc
stands_at p (y ∷ ys) zero x at h = let same : y ≡ x = cc in or_left (p y) (list_any p ys) (ap p same ∙ h)
stands_at p (y ∷ ys) (suc i) x at h = or_right (p y) (list_any p ys) (stands_at p ys i x at h)

pub no_way : false ≡ true → ⊥
no_way h = cc
