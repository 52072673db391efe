-- A table in the place of the one with a number.
use Rattle.std.proofs.Common.{◌≡◌, ◌≢◌, ℕ, ◌≤◌, ◌==◌, Bool, true, false, cond, ◌&&◌, if◌then◌else◌, List, [], ◌∷◌, map, Option, Some, None, nat_le, refl, sym, ap, ap₂, ◌∙◌, inl, inr, arith}
use Rattle.std.specs.List.{find, list_all}
use Rattle.std.specs.Option.{option_map, option_and_then}
use Rattle.std.proofs.lemmas.Bool.{and_parts, and_from, eq-eqb, eqb-true, ne_eqb, cases_Bool}
use Rattle.wat_schema.specs.Catalog.{ascend, has_number, in_order, numbers_of}
use Rattle.wat_schema.specs.Tables.{Table, Tables, is_table, are_tables, listing_of, catalog_of, table_at, with_table, on_table}
use Rattle.wat_schema.proofs.Order.{begins}

module _ {X : Type 0} (p : X → Bool) where
  pub found_first : (x : X) (xs : List X) → p x ≡ true → find p (x ∷ xs) ≡ Some x
  found_first x xs h = rw h refl

  pub found_later : (x : X) (xs : List X) → p x ≡ false → find p (x ∷ xs) ≡ find p xs
  found_later x xs h = rw h refl

abbrev pub has_n : ℕ → Table → Bool
has_n n x = n == x.def.number

abbrev pub placed : ℕ → Table → Table → Table
placed n y other = if n == other.def.number then y else other

pub placed_here : (n : ℕ) (y z : Table) → (n == z.def.number) ≡ true → placed n y z ≡ y
placed_here n y z h = ap (λ b. if b then y else z) h

pub placed_other : (n : ℕ) (y z : Table) → (n == z.def.number) ≡ false → placed n y z ≡ z
placed_other n y z h = ap (λ b. if b then y else z) h

pub numbers_placed : (n : ℕ) (y : Table) → n ≡ y.def.number → (xs : List Table) → numbers_of (map listing_of (map (placed n y) xs)) ≡ numbers_of (map listing_of xs)
numbers_placed n y named [] = refl
numbers_placed n y named (x ∷ xs) = elim (cases_Bool (n == x.def.number)) [
  | inl here ↦ rw here (ap₂ (λ a b. a ∷ b) (sym named ∙ eqb-true n x.def.number here) (numbers_placed n y named xs))
  | inr other ↦ rw other (ap (λ b. x.def.number ∷ b) (numbers_placed n y named xs))
]

pub all_placed : (n : ℕ) (y : Table) → is_table y ≡ true → (xs : List Table) → list_all is_table xs ≡ true → list_all is_table (map (placed n y) xs) ≡ true
all_placed n y ok [] h = refl
all_placed n y ok (x ∷ xs) h =
    let parts = and_parts (is_table x) (list_all is_table xs) h in
    and_from (is_table (placed n y x)) (list_all is_table (map (placed n y) xs))
    (elim (n == x.def.number) as (λ v. is_table (if v then y else x) ≡ true) [ true ↦ ok | false ↦ parts.0 ]) (all_placed n y ok xs parts.1)

pub found_placed : (n : ℕ) (y x : Table) (xs : List Table) → n ≡ y.def.number → find (has_n n) xs ≡ Some x → find (has_n n) (map (placed n y) xs) ≡ Some y
found_placed n y x [] named h = absurd (let no : None ≡ Some x = h in cc)
found_placed n y x (z ∷ zs) named h = elim (cases_Bool (n == z.def.number)) [
  | inl here ↦ let there : (n == y.def.number) ≡ true = eq-eqb n y.def.number named in rw (placed_here n y z here) (found_first (has_n n) y (map (placed n y) zs) there)
  | inr other ↦ rw (placed_other n y z other) (found_later (has_n n) z (map (placed n y) zs) other ∙ found_placed n y x zs named (sym (found_later (has_n n) z zs other) ∙ h))
]

pub found_other : (n m : ℕ) (y : Table) (xs : List Table) → n ≡ y.def.number → n ≢ m → find (has_n m) (map (placed n y) xs) ≡ find (has_n m) xs
found_other n m y [] named apart = refl
found_other n m y (z ∷ zs) named apart = elim (cases_Bool (n == z.def.number)) [
  | inl here ↦
      let not_y : (m == y.def.number) ≡ false = ne_eqb m y.def.number (λ e. apart (named ∙ sym e)) in
      let not_z : (m == z.def.number) ≡ false = ne_eqb m z.def.number (λ e. apart (eqb-true n z.def.number here ∙ sym e)) in
      rw (placed_here n y z here)
      (found_later (has_n m) y (map (placed n y) zs) not_y ∙ found_other n m y zs named apart ∙ sym (found_later (has_n m) z zs not_z))
  | inr other ↦ rw (placed_other n y z other) (elim (cases_Bool (m == z.def.number)) [
    | inl is ↦ found_first (has_n m) z (map (placed n y) zs) is ∙ sym (found_first (has_n m) z zs is)
    | inr isnt ↦ found_later (has_n m) z (map (placed n y) zs) isnt ∙ found_other n m y zs named apart ∙ sym (found_later (has_n m) z zs isnt)
  ])
]

pub placed_twice : (n : ℕ) (y w : Table) (xs : List Table) → n ≡ y.def.number → map (placed n w) (map (placed n y) xs) ≡ map (placed n w) xs
placed_twice n y w [] named = refl
placed_twice n y w (z ∷ zs) named = ap₂ (λ a rest. a ∷ rest) here (placed_twice n y w zs named)
  where
    here : placed n w (placed n y z) ≡ placed n w z
    here = elim (cases_Bool (n == z.def.number)) [
      | inl is ↦ ap (placed n w) (placed_here n y z is) ∙ placed_here n w y (eq-eqb n y.def.number named) ∙ sym (placed_here n w z is)
      | inr other ↦ ap (placed n w) (placed_other n y z other)
    ]

pub placed_apart : (n m : ℕ) (y w : Table) (xs : List Table) → n ≡ y.def.number → m ≡ w.def.number → n ≢ m
    → map (placed n y) (map (placed m w) xs) ≡ map (placed m w) (map (placed n y) xs)
placed_apart n m y w [] a b apart = refl
placed_apart n m y w (z ∷ zs) a b apart = ap₂ (λ v rest. v ∷ rest) here (placed_apart n m y w zs a b apart)
  where
    not_y : (m == y.def.number) ≡ false
    not_y = ne_eqb m y.def.number (λ e. apart (a ∙ sym e))

    not_w : (n == w.def.number) ≡ false
    not_w = ne_eqb n w.def.number (λ e. apart (e ∙ sym b))

    here : placed n y (placed m w z) ≡ placed m w (placed n y z)
    here = elim (cases_Bool (n == z.def.number)) [
      | inl is ↦
          let not_m : (m == z.def.number) ≡ false = ne_eqb m z.def.number (λ e. apart (eqb-true n z.def.number is ∙ sym e)) in
          ap (placed n y) (placed_other m w z not_m) ∙ placed_here n y z is ∙ sym (placed_other m w y not_y) ∙ ap (placed m w) (sym (placed_here n y z is))
      | inr isnt ↦ elim (cases_Bool (m == z.def.number)) [
        | inl is ↦ ap (placed n y) (placed_here m w z is) ∙ placed_other n y w not_w ∙ sym (placed_here m w z is) ∙ ap (placed m w) (sym (placed_other n y z isnt))
        | inr neither ↦ ap (placed n y) (placed_other m w z neither) ∙ placed_other n y z isnt ∙ sym (placed_other m w z neither) ∙ ap (placed m w) (sym (placed_other n y z isnt))
      ]
    ]

-- what stands under a number, where another table takes a place
pub table_placed : (n : ℕ) (x y : Table) (t : Tables) (m : ℕ) → n ≡ y.def.number → table_at t n ≡ Some x → table_at (with_table n t y) m ≡ (if n == m then Some y else table_at t m)
table_placed n x y t m named found = elim (cases_Bool (n == m)) [
  | inl here ↦ let one : n ≡ m = eqb-true n m here in rw here (ap (table_at (with_table n t y)) (sym one) ∙ found_placed n y x t.tables named found)
  | inr other ↦ rw other (found_other n m y t.tables named (λ e. let no : true ≡ false = sym (eq-eqb n m e) ∙ other in cc))
]

pub record Good (n : ℕ) (x : Table) : Type 0 where
  pub ok : is_table x ≡ true
  pub named : n ≡ x.def.number

pub good_found : (n : ℕ) (x : Table) (xs : List Table) → list_all is_table xs ≡ true → find (has_n n) xs ≡ Some x → Good n x
good_found n x [] h k = absurd (let no : None ≡ Some x = k in cc)
good_found n x (z ∷ zs) h k =
    let parts = and_parts (is_table z) (list_all is_table zs) h in
    elim (cases_Bool (n == z.def.number)) [
      | inl here ↦
          let same : Some z ≡ Some x = sym (found_first (has_n n) z zs here) ∙ k in
          let is : z ≡ x = cc in
          record { ok = ap is_table (sym is) ∙ parts.0; named = eqb-true n z.def.number here ∙ ap (λ y. y.def.number) is }
      | inr other ↦ good_found n x zs parts.1 (sym (found_later (has_n n) z zs other) ∙ k)
    ]

-- the table in the catalog
pub listed : (n : ℕ) (x : Table) (xs : List Table) → find (has_n n) xs ≡ Some x → find (has_number n) (map listing_of xs) ≡ Some (listing_of x)
listed n x [] h = absurd (let no : None ≡ Some x = h in cc)
listed n x (z ∷ zs) h = elim (cases_Bool (n == z.def.number)) [
  | inl here ↦
      let same : Some z ≡ Some x = sym (found_first (has_n n) z zs here) ∙ h in
      let is : z ≡ x = cc in
      found_first (has_number n) (listing_of z) (map listing_of zs) here ∙ ap (λ y. Some (listing_of y)) is
  | inr other ↦ found_later (has_number n) (listing_of z) (map listing_of zs) other ∙ listed n x zs (sym (found_later (has_n n) z zs other) ∙ h)
]

-- no table has a number that is not above the lower bound
pub unplaced : (n : ℕ) (y : Table) (low high : ℕ) (xs : List Table) → n ≤ low → ascend low (numbers_of (map listing_of xs)) high ≡ true → map (placed n y) xs ≡ xs
unplaced n y low high [] l h = refl
unplaced n y low high (x ∷ xs) l h =
    let b = begins low x.def.number (numbers_of (map listing_of xs)) high h in
    let other : (n == x.def.number) ≡ false = ne_eqb n x.def.number (λ e. omega arith) in
    ap₂ (λ a rest. a ∷ rest) (placed_other n y x other) (unplaced n y x.def.number high xs (omega arith) b.rest)

pub listings_stay : (n : ℕ) (x y : Table) (low high : ℕ) (xs : List Table) → ascend low (numbers_of (map listing_of xs)) high ≡ true → find (has_n n) xs ≡ Some x
    → listing_of y ≡ listing_of x → map listing_of (map (placed n y) xs) ≡ map listing_of xs
listings_stay n x y low high [] h k same = refl
listings_stay n x y low high (z ∷ zs) h k same =
    let b = begins low z.def.number (numbers_of (map listing_of zs)) high h in
    elim (cases_Bool (n == z.def.number)) [
      | inl here ↦
          let found : Some z ≡ Some x = sym (found_first (has_n n) z zs here) ∙ k in
          let is : z ≡ x = cc in
          let at : n ≡ z.def.number = eqb-true n z.def.number here in
          let rest = unplaced n y z.def.number high zs (omega arith) b.rest in
          ap₂ (λ a others. a ∷ others) (ap listing_of (placed_here n y z here) ∙ same ∙ ap listing_of (sym is)) (ap (map listing_of) rest)
      | inr other ↦
          ap₂ (λ a others. a ∷ others) (ap listing_of (placed_other n y z other))
          (listings_stay n x y z.def.number high zs b.rest (sym (found_later (has_n n) z zs other) ∙ k) same)
    ]

-- a table in the place of another, and that one back in its place
pub replaced : (n : ℕ) (x y : Table) (low high : ℕ) (xs : List Table) → n ≡ y.def.number → ascend low (numbers_of (map listing_of xs)) high ≡ true → find (λ z. n == z.def.number) xs ≡ Some x
    → map (placed n x) (map (placed n y) xs) ≡ xs
replaced n x y low high [] named h k = refl
replaced n x y low high (z ∷ zs) named h k =
    let b = begins low z.def.number (numbers_of (map listing_of zs)) high h in
    let found : cond (n == z.def.number) (Some z) (find (λ w. n == w.def.number) zs) ≡ Some x = k in
    elim (cases_Bool (n == z.def.number)) [
      | inl here ↦
          let same : Some z ≡ Some x = rw here at found in
          let is : z ≡ x = cc in
          let there : (n == y.def.number) ≡ true = eq-eqb n y.def.number named in
          let at : n ≡ z.def.number = eqb-true n z.def.number here in
          let later = unplaced n y z.def.number high zs (omega arith) b.rest in
          rw (here, there, later) (ap₂ (λ a rest. a ∷ rest) (sym is) (unplaced n x z.def.number high zs (omega arith) b.rest))
      | inr other ↦ rw (other, other) (ap (λ rest. z ∷ rest) (replaced n x y z.def.number high zs named b.rest (rw other at found)))
    ]

pub record Parts (t : Tables) : Type 0 where
  pub tables : list_all is_table t.tables ≡ true
  pub order : ascend 0 (numbers_of (map listing_of t.tables)) t.next ≡ true

pub parts_of : (t : Tables) → are_tables t ≡ true → Parts t
parts_of t ok =
    let both = and_parts (in_order (catalog_of t)) (list_all is_table t.tables) ok in
    record { tables = both.1; order = (and_parts (nat_le 1 t.next) (ascend 0 (numbers_of (map listing_of t.tables)) t.next) both.0).1 }

-- a change that applies found its table, and put another in its place
pub record Changed (n : ℕ) (change : Table → Option Table) (t after : Tables) : Type 0 where
  pub from : Table
  pub to : Table
  pub found : table_at t n ≡ Some from
  pub made : change from ≡ Some to
  pub is : with_table n t to ≡ after

pub changed : (n : ℕ) (change : Table → Option Table) (t after : Tables) → on_table n change t ≡ Some after → Changed n change t after
changed n change t after h = by (table_at t n) refl h
  where
    made_by : (x : Table) (o : Option Table) → table_at t n ≡ Some x → change x ≡ o → option_map (with_table n t) o ≡ Some after → Changed n change t after
    made_by x None found made h = cc
    made_by x (Some y) found made h = record { from = x; to = y; found = found; made = made; is = (let same : Some (with_table n t y) ≡ Some after = h in cc) }

    by : (o : Option Table) → table_at t n ≡ o → option_and_then (λ x. option_map (with_table n t) (change x)) o ≡ Some after → Changed n change t after
    by None found h = cc
    by (Some x) found h = made_by x (change x) found refl h

pub made_on : (n : ℕ) (change : Table → Option Table) (t : Tables) (x y : Table) → table_at t n ≡ Some x → change x ≡ Some y → on_table n change t ≡ Some (with_table n t y)
made_on n change t x y found made = ap (option_and_then (λ z. option_map (with_table n t) (change z))) found ∙ ap (option_map (with_table n t)) made
