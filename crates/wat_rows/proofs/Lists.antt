-- Rows in a list, found by their names.
use Rattle.std.proofs.Common.{◌≡◌, ◌≢◌, inl, inr, ℕ, ◌+◌, ◌<◌, ◌≤◌, ◌==◌, ◌&&◌, Bool, true, false, if◌then◌else◌, List, [], ◌∷◌, ◌++◌, length, map, Option, Some, None, refl, sym, ap, ap₂, subst, ◌∙◌, arith, length-append}
use Rattle.std.specs.Prelude.{cond}
use Rattle.std.specs.List.{find, list_any, AllByRecursion}
use Rattle.std.specs.Option.{option_map}
use Rattle.std.specs.Ordering.{is_eq}
use Rattle.std.specs.declared.cmp.Ordering.{Ordering}
use Rattle.std.specs.declared.cmp.Ordering.TheVariants.{Less, Equal, Greater}
use Rattle.std.proofs.lemmas.Bool.{cases_Bool, eqb-true, eq-eqb}
use Rattle.std.proofs.lemmas.List.{map-append}
use Rattle.wat_value.specs.Order.{key_cmp, key_eq}
use Rattle.wat_value.specs.OrderLaws.{key_cmp_level, key_cmp_refl}
use Rattle.wat_rows.specs.declared.name.RowName.{RowName}
use Rattle.wat_rows.specs.Rows.{Row, NamedRow, name_is, names_of, row_named, times}

-- ---- names

pub same_key : (a b : Row) → key_eq a b ≡ true → a ≡ b
same_key a b h = key_cmp_level a b (level (key_cmp a b) h)
  where
    level : (o : Ordering) → is_eq o ≡ true → o ≡ Equal
    level Less h = cc
    level Equal h = refl
    level Greater h = cc

pub key_itself : (a : Row) → key_eq a a ≡ true
key_itself a = ap is_eq (key_cmp_refl a)

both : (a b : Bool) → (a && b) ≡ true → (a ≡ true) × (b ≡ true)
both true b h = (refl, h)
both false b h = absurd (let no : false ≡ true = h in cc)

pub is_named : (table : ℕ) (key : Row) (name : RowName) → name_is table key name ≡ true → (name.table ≡ table) × (name.key ≡ key)
is_named table key name h =
    let parts = both (name.table == table) (key_eq name.key key) h in
    (eqb-true name.table table parts.0, same_key name.key key parts.1)

pub named_itself : (name : RowName) → name_is name.table name.key name ≡ true
named_itself name = ap₂ (λ a b. a && b) (eq-eqb name.table name.table refl) (key_itself name.key)

-- ---- what is found

module _ {A : Type 0} (test : A → Bool) where
  find_skip : (front : List A) (x : A) (back : List A) → test x ≡ false → find test (front ++ x ∷ back) ≡ find test (front ++ back)
  find_skip [] x back h = ap (λ b. cond b (Some x) (find test back)) h
  find_skip (y ∷ ys) x back h = ap (λ o. cond (test y) (Some y) o) (find_skip ys x back h)

module _ (table : ℕ) (key : Row) where
  pub skips : (front : List NamedRow) (x : NamedRow) (back : List NamedRow) → name_is table key x.name ≡ false → row_named table key (front ++ x ∷ back) ≡ row_named table key (front ++ back)
  skips front x back h = ap (option_map (λ (it : NamedRow). it.row)) (find_skip (λ (it : NamedRow). name_is table key it.name) front x back h)

  one : Bool → ℕ
  one b = if b then 1 else 0

  none_here : (b : Bool) (n : ℕ) → (if b then 1 else 0) + n ≡ 0 → (b ≡ false) × (n ≡ 0)
  none_here true n h = absurd (omega (arith, let is : 1 + n ≡ 0 = h in is))
  none_here false n h = (refl, omega (arith, let is : 0 + n ≡ 0 = h in is))

  pub here : (front : List NamedRow) (x : NamedRow) (back : List NamedRow) → times table key (names_of front) ≡ 0 → name_is table key x.name ≡ true → row_named table key (front ++ x ∷ back) ≡ Some x.row
  here [] x back none h = ap (λ b. option_map (λ (it : NamedRow). it.row) (cond b (Some x) (find (λ (it : NamedRow). name_is table key it.name) back))) h
  here (y ∷ ys) x back none h =
      let parts = none_here (name_is table key y.name) (times table key (names_of ys)) none in
      ap (λ b. option_map (λ (it : NamedRow). it.row) (cond b (Some y) (find (λ (it : NamedRow). name_is table key it.name) (ys ++ x ∷ back)))) parts.0
      ∙ here ys x back parts.1 h

  pub nowhere : (rows : List NamedRow) → times table key (names_of rows) ≡ 0 → row_named table key rows ≡ None
  nowhere [] none = refl
  nowhere (y ∷ ys) none =
      let parts = none_here (name_is table key y.name) (times table key (names_of ys)) none in
      ap (λ b. option_map (λ (it : NamedRow). it.row) (cond b (Some y) (find (λ (it : NamedRow). name_is table key it.name) ys))) parts.0
      ∙ nowhere ys parts.1

  -- ---- how often

  swap_in : (a b c : ℕ) → a + (b + c) ≡ b + (a + c)
  swap_in a b c = omega arith

  pub times_at : (front : List NamedRow) (x : NamedRow) (back : List NamedRow) → times table key (names_of (front ++ x ∷ back)) ≡ (if name_is table key x.name then 1 else 0) + times table key (names_of (front ++ back))
  times_at [] x back = refl
  times_at (y ∷ ys) x back =
      ap (λ n. (if name_is table key y.name then 1 else 0) + n) (times_at ys x back)
      ∙ swap_in (if name_is table key y.name then 1 else 0) (if name_is table key x.name then 1 else 0) (times table key (names_of (ys ++ back)))

  pub times_skip : (front : List NamedRow) (x : NamedRow) (back : List NamedRow) → name_is table key x.name ≡ false → times table key (names_of (front ++ x ∷ back)) ≡ times table key (names_of (front ++ back))
  times_skip front x back h = times_at front x back ∙ ap (λ b. (if b then 1 else 0) + times table key (names_of (front ++ back))) h ∙ plus (times table key (names_of (front ++ back)))
    where
      plus : (n : ℕ) → 0 + n ≡ n
      plus n = omega arith

  pub times_here : (front : List NamedRow) (x : NamedRow) (back : List NamedRow) → name_is table key x.name ≡ true → times table key (names_of (front ++ x ∷ back)) ≡ 1 + times table key (names_of (front ++ back))
  times_here front x back h = times_at front x back ∙ ap (λ b. (if b then 1 else 0) + times table key (names_of (front ++ back))) h

-- ---- all of a list

module _ {A : Type 0} (P : A → Type 0) where
  pub all_front : (xs ys : List A) → AllByRecursion P (xs ++ ys) → AllByRecursion P xs
  all_front [] ys all = tt
  all_front (x ∷ xs) ys all = (all.0, all_front xs ys all.1)

  pub all_back : (xs ys : List A) → AllByRecursion P (xs ++ ys) → AllByRecursion P ys
  all_back [] ys all = all
  all_back (x ∷ xs) ys all = all_back xs ys all.1

  pub all_join : (xs ys : List A) → AllByRecursion P xs → AllByRecursion P ys → AllByRecursion P (xs ++ ys)
  all_join [] ys a b = b
  all_join (x ∷ xs) ys a b = (a.0, all_join xs ys a.1 b)

-- a name that stands in none of the rows is found in none
pub append-none : {A : Type 0} (xs : List A) → xs ++ [] ≡ xs
append-none [] = refl
append-none (x ∷ xs) = ap (λ l. x ∷ l) (append-none xs)

-- a name that stands once is found
pub once_found : (table : ℕ) (key : Row) (rows : List NamedRow) → times table key (names_of rows) ≡ 1 → row_named table key rows ≡ None → ⊥
once_found table key [] one none = omega (arith, one)
once_found table key (x ∷ xs) one none = elim (cases_Bool (name_is table key x.name)) [
  | inl is ↦
      let no : Some x.row ≡ None =
      sym (ap (λ b. option_map (λ (it : NamedRow). it.row) (cond b (Some x) (find (λ (it : NamedRow). name_is table key it.name) xs))) is) ∙ none in
      cc
  | inr isnt ↦
      once_found table key xs (plus (times table key (names_of xs)) (sym (ap (λ b. (if b then 1 else 0) + times table key (names_of xs)) isnt) ∙ one))
      (sym (ap (λ b. option_map (λ (it : NamedRow). it.row) (cond b (Some x) (find (λ (it : NamedRow). name_is table key it.name) xs))) isnt) ∙ none)
]
  where
    plus : (n : ℕ) → 0 + n ≡ 1 → n ≡ 1
    plus n h = omega (arith, h)
