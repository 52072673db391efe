-- A table that stands is found by its number.
use Rattle.std.proofs.Common.{◌≡◌, ℕ, ◌<◌, ◌==◌, Bool, true, false, ◌&&◌, cond, List, [], ◌∷◌, map, Option, Some, None, nat_le, refl, sym, ap, ◌∙◌, inl, inr, arith}
use Rattle.std.specs.List.{find, list_all}
use Rattle.std.specs.Option.{option_map}
use Rattle.std.proofs.lemmas.Bool.{and_parts, eq-eqb, ne_eqb, cases_Bool}
use Rattle.wat_schema.specs.Catalog.{Name, Catalog, Listing, ascend, has_name, has_number, in_order, listing_at, listing_named, numbers_of}
use Rattle.wat_schema.specs.Stored.{IsCatalog, is_whole}
use Rattle.wat_schema.specs.Tables.{Table, Tables, catalog_of, listing_of, table_at}
use Rattle.wat_schema.proofs.Order.{begins}
use Rattle.wat_schema.proofs.Placed.{found_first, found_later}

above_low : (p : Listing → Bool) (low high : ℕ) (ts : List Listing) (t : Listing) → ascend low (numbers_of ts) high ≡ true → find p ts ≡ Some t → low < t.def.number
above_low p low high [] t order h = absurd (let no : None ≡ Some t = h in cc)
above_low p low high (u ∷ us) t order h =
    let b = begins low u.def.number (numbers_of us) high order in
    let above = b.above in
    elim (cases_Bool (p u)) [
      | inl here ↦
          let found : Some u ≡ Some t = sym (found_first p u us here) ∙ h in
          let is : u ≡ t = cc in
          let same : u.def.number ≡ t.def.number = ap (λ (l : Listing). l.def.number) is in
          omega arith
      | inr other ↦ let later = above_low p u.def.number high us t b.rest (sym (found_later p u us other) ∙ h) in omega arith
    ]

-- what is found by any test is found by its number
found_again : (p : Listing → Bool) (low high : ℕ) (ts : List Listing) (t : Listing) → ascend low (numbers_of ts) high ≡ true → find p ts ≡ Some t → find (has_number t.def.number) ts ≡ Some t
found_again p low high [] t order h = absurd (let no : None ≡ Some t = h in cc)
found_again p low high (u ∷ us) t order h =
    let b = begins low u.def.number (numbers_of us) high order in
    elim (cases_Bool (p u)) [
      | inl here ↦
          let found : Some u ≡ Some t = sym (found_first p u us here) ∙ h in
          let is : u ≡ t = cc in
          found_first (has_number t.def.number) u us (eq-eqb t.def.number u.def.number (ap (λ (l : Listing). l.def.number) (sym is))) ∙ found
      | inr other ↦
          let rest = sym (found_later p u us other) ∙ h in
          let later = above_low p u.def.number high us t b.rest rest in
          found_later (has_number t.def.number) u us (ne_eqb t.def.number u.def.number (λ e. omega arith)) ∙ found_again p u.def.number high us t b.rest rest
    ]

pub known_by_number : (c : Catalog) (name : Name) (t : Listing) → in_order c ≡ true → listing_named c name ≡ Some t → listing_at c t.def.number ≡ Some t
known_by_number c name t order h = found_again (has_name name) 0 c.next c.tables t (and_parts (nat_le 1 c.next) (ascend 0 (numbers_of c.tables) c.next) order).1 h

listed_in : (n : ℕ) (xs : List Table) → find (has_number n) (map listing_of xs) ≡ option_map listing_of (find (λ x. n == x.def.number) xs)
listed_in n [] = refl
listed_in n (x ∷ xs) = by (n == x.def.number) (listed_in n xs)
  where
    by : (b : Bool) → find (has_number n) (map listing_of xs) ≡ option_map listing_of (find (λ x. n == x.def.number) xs)
        → cond b (Some (listing_of x)) (find (has_number n) (map listing_of xs)) ≡ option_map listing_of (cond b (Some x) (find (λ x. n == x.def.number) xs))
    by true rest = refl
    by false rest = rest

-- the listing of a table is found as the table is
pub listed_table : (t : Tables) (n : ℕ) → listing_at (catalog_of t) n ≡ option_map listing_of (table_at t n)
listed_table t n = listed_in n t.tables

found_whole : (p : Listing → Bool) (ts : List Listing) (t : Listing) → list_all is_whole ts ≡ true → find p ts ≡ Some t → is_whole t ≡ true
found_whole p [] t all h = absurd (let no : None ≡ Some t = h in cc)
found_whole p (u ∷ us) t all h =
    let parts = and_parts (is_whole u) (list_all is_whole us) all in
    elim (cases_Bool (p u)) [
      | inl here ↦
          let found : Some u ≡ Some t = sym (found_first p u us here) ∙ h in
          let is : u ≡ t = cc in
          ap is_whole (sym is) ∙ parts.0
      | inr other ↦ found_whole p us t parts.1 (sym (found_later p u us other) ∙ h)
    ]

-- and it breaks no rule
pub whole_at : (c : Catalog) (n : ℕ) (t : Listing) → IsCatalog c → listing_at c n ≡ Some t → is_whole t ≡ true
whole_at c n t is h = found_whole (has_number n) c.tables t is.tables h
