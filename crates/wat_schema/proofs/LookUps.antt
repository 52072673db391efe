-- What is found by a list of names beside the list that it names.
use Rattle.std.proofs.Common.{◌≡◌, ℕ, ◌+◌, ltb, Bool, true, false, not, cond, List, [], ◌∷◌, map, length, Option, Some, None, slice_get, get_or, nat_eq, position, refl, sym, ap, ◌∙◌, ◌==◌}
use Rattle.std.specs.List.{find, position_or_len}
use Rattle.std.specs.Option.{option_and_then}
use Rattle.std.specs.Str.{bytes_eq}
use Rattle.std.proofs.lemmas.Bool.{ltb-false, eqb-true}
use Rattle.std.proofs.lemmas.List.{length-map}
use Rattle.std.proofs.lemmas.List.Folds.{find_at}
use Rattle.std.proofs.lemmas.List.Quantifiers.{position-Some}
use Rattle.std.proofs.lemmas.Option.{slice_get_past, slice_get-get_or}
use Rattle.wat_schema.specs.Catalog.{Name, Catalog, numbers_of, names_of, listing_at, listing_named}

module _ {X Y : Type 0} (p : Y → Bool) (f : X → Y) where
  position_or_len-map : (xs : List X) → position_or_len p (map f xs) ≡ position_or_len (λ x. p (f x)) xs
  position_or_len-map [] = refl
  position_or_len-map (x ∷ xs) = ap (λ n. cond (not (p (f x))) (1 + n) 0) (position_or_len-map xs)

  pub position-map : (xs : List X) → position p (map f xs) ≡ position (λ x. p (f x)) xs
  position-map xs = rw (position_or_len-map xs, length-map xs f) refl

module _ {X Y Z : Type 0} (p : Z → Bool) (f : X → Z) (g : Y → Z) where
  -- two lists that are named alike have a name in the same place
  pub position-alike : (xs : List X) (ys : List Y) → map f xs ≡ map g ys → position (λ x. p (f x)) xs ≡ position (λ y. p (g y)) ys
  position-alike xs ys alike = sym (position-map p f xs) ∙ ap (position p) alike ∙ position-map p g ys

-- what `find` finds is at the place that `position` gives
pub find_by_position : {X : Type 0} (p : X → Bool) (xs : List X) → find p xs ≡ option_and_then (slice_get xs) (position p xs)
find_by_position p xs = by (ltb (position_or_len p xs) (length xs)) refl
  where
    by : (b : Bool) → ltb (position_or_len p xs) (length xs) ≡ b → find p xs ≡ option_and_then (slice_get xs) (cond b (Some (position_or_len p xs)) None)
    by true h = find_at p xs
    by false h = find_at p xs ∙ slice_get_past xs (position_or_len p xs) (ltb-false _ _ h)

module _ {X Y Z : Type 0} (p : Z → Bool) (f : X → Z) (g : Y → Z) where
  pub find-alike : (xs : List X) (ys : List Y) → map f xs ≡ map g ys → find (λ y. p (g y)) ys ≡ option_and_then (slice_get ys) (position (λ x. p (f x)) xs)
  find-alike xs ys alike = find_by_position (λ y. p (g y)) ys ∙ ap (option_and_then (slice_get ys)) (sym (position-alike p f g xs ys alike))

pub map_id : {X : Type 0} (xs : List X) → map (λ x. x) xs ≡ xs
map_id [] = refl
map_id (x ∷ xs) = ap (λ ys. x ∷ ys) (map_id xs)

-- the table at the place of its number, and of its name
pub listing_by_number : (c : Catalog) (table : ℕ) (numbers : List ℕ) (o : Option ℕ) → numbers ≡ numbers_of c.tables → o ≡ position (nat_eq table) numbers
    → option_and_then (slice_get c.tables) o ≡ listing_at c table
listing_by_number c table numbers o kept at =
    ap (option_and_then (slice_get c.tables)) at
    ∙ sym (find-alike (nat_eq table) (λ n. n) (λ t. t.def.number) numbers c.tables (map_id numbers ∙ kept))

pub listing_by_name : {K : Type 0} (bytes : K → Name) (c : Catalog) (name : Name) (names : List K) (o : Option ℕ) → map bytes names ≡ names_of c.tables
    → o ≡ position (λ k. bytes_eq name (bytes k)) names → option_and_then (slice_get c.tables) o ≡ listing_named c name
listing_by_name bytes c name names o kept at =
    ap (option_and_then (slice_get c.tables)) at
    ∙ sym (find-alike (bytes_eq name) bytes (λ t. t.def.name) names c.tables kept)

-- what has the number stands at its place
pub record At {X : Type 0} (f : X → ℕ) (n : ℕ) (xs : List X) (i : ℕ) : Type 0 where
  pub item : X
  pub at : slice_get xs i ≡ Some item
  pub is : n ≡ f item

pub at_number : {X : Type 0} (f : X → ℕ) (n : ℕ) (numbers : List ℕ) (xs : List X) (i : ℕ) → numbers ≡ map f xs → position (nat_eq n) numbers ≡ Some i → At f n xs i
at_number f n numbers [] i kept at = absurd (let none : None ≡ Some i = sym (ap (position (nat_eq n)) kept) ∙ at in cc)
at_number f n numbers (d ∷ ds) i kept at =
    let here : position (λ x. n == f x) (d ∷ ds) ≡ Some i = sym (position-map (nat_eq n) f (d ∷ ds)) ∙ ap (position (nat_eq n)) (sym kept) ∙ at in
    let found = position-Some (λ x. n == f x) (d ∷ ds) i d here in
    record { item = get_or (d ∷ ds) i d; at = slice_get-get_or (d ∷ ds) i d found.0; is = eqb-true n (f (get_or (d ∷ ds) i d)) found.1 }
