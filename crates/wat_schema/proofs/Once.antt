-- Lists whose items come one after another, and of which none is the same as an earlier one.
use Rattle.std.proofs.Common.{◌≡◌, ℕ, ◌+◌, ◌<◌, ◌≤◌, Bool, true, false, not, if◌then◌else◌, List, [], ◌∷◌, ◌++◌, map, take, length, get_or, refl, sym, ap, ap₂, ◌∙◌, inl, inr, arith}
use Rattle.std.specs.Cmp.{both_ways}
use Rattle.std.specs.List.{list_any, position}
use Rattle.std.specs.Str.{bytes_eq}
use Rattle.std.proofs.lemmas.Bool.{cases_Bool}
use Rattle.std.proofs.lemmas.List.{map-append, take_more}
use Rattle.std.proofs.lemmas.Slice.Eq.{bytes_eq-Decides}
use Rattle.indexmap.specs.IndexSet.{insert_key}
use Rattle.wat_value.specs.declared.definition.Column.{Column}
use Rattle.wat_schema.specs.Catalog.{Name, repeats}
use Rattle.wat_schema.proofs.Distinct.{distinct_push}
use Rattle.wat_schema.proofs.LookUps.{position-map}
use Rattle.wat_schema.proofs.Order.{fresh_item, list_any-map}

pub bytes_eq-turned : (a b : Name) → bytes_eq a b ≡ bytes_eq b a
bytes_eq-turned a b =
    both_ways (bytes_eq a b) (bytes_eq b a)
    (λ h. (bytes_eq-Decides b a).1 (sym ((bytes_eq-Decides a b).0 h)))
    (λ h. (bytes_eq-Decides a b).1 (sym ((bytes_eq-Decides b a).0 h)))

-- the items of a list of one
pub only_one : {X : Type 0} (xs : List X) (d x : X) → 1 ≤ length xs → length xs < 2 → x ≡ get_or xs 0 d → x ∷ [] ≡ xs
only_one [] d x some few is = absurd (omega arith)
only_one (y ∷ []) d x some few is = ap (λ z. z ∷ []) is
only_one (y ∷ z ∷ zs) d x some few is = absurd (omega arith)

pub not_turned : (a b : Bool) → a ≡ not b → b ≡ not a
not_turned a true h = ap not (sym h)
not_turned a false h = ap not (sym h)

-- The next item, after those so far. `fresh` says whether it is none of them.
module _ {X : Type 0} (same : X → X → Bool) (xs : List X) (i : ℕ) (d : X) (within : i < length xs)
    (before : List X) (so_far : before ≡ take i xs) (fresh : Bool) (says : fresh ≡ not (list_any (same (get_or xs i d)) before)) where
  had : list_any (same (get_or xs i d)) (take i xs) ≡ not fresh
  had = ap (list_any (same (get_or xs i d))) (sym so_far) ∙ not_turned fresh (list_any (same (get_or xs i d)) before) says

  pub comes_again : fresh ≡ false → repeats same xs ≡ true
  comes_again is_old = elim (cases_Bool (repeats same xs)) [
    | inl twice ↦ twice
    | inr once ↦ absurd (let no_way : true ≡ false = sym (ap not is_old) ∙ sym had ∙ fresh_item same xs i d within once in cc)
  ]

  pub comes_once : fresh ≡ true → repeats same (take i xs) ≡ false → repeats same (take (i + 1) xs) ≡ false
  comes_once is_new once = ap (repeats same) (take_more xs i d within) ∙ distinct_push same (take i xs) (get_or xs i d) once (had ∙ ap not is_new)

  pub key_next : (after : List X) → after ≡ insert_key same before (get_or xs i d) → fresh ≡ true → after ≡ take (i + 1) xs
  key_next after is is_new =
      let none : list_any (same (get_or xs i d)) before ≡ false = not_turned fresh (list_any (same (get_or xs i d)) before) says ∙ ap not is_new in
      is ∙ ap (λ (b : Bool). if b then before else before ++ get_or xs i d ∷ []) none ∙ ap (λ ks. ks ++ get_or xs i d ∷ []) so_far ∙ sym (take_more xs i d within)

-- The next item by its name, after the names so far.
module _ {X : Type 0} (name : X → Name) where
  abbrev pub named_alike : X → X → Bool
  named_alike a b = bytes_eq (name a) (name b)

  module _ (xs : List X) (i : ℕ) (d : X) (within : i < length xs) (before : List Name) (so_far : before ≡ map name (take i xs))
      (n : Name) (is : n ≡ name (get_or xs i d)) (fresh : Bool) (says : fresh ≡ not (list_any (bytes_eq n) before)) where
    says_item : fresh ≡ not (list_any (named_alike (get_or xs i d)) (take i xs))
    says_item =
        says ∙ ap₂ (λ m ns. not (list_any (bytes_eq m) ns)) is so_far
        ∙ ap not (list_any-map (bytes_eq (name (get_or xs i d))) name (take i xs))

    pub name_again : fresh ≡ false → repeats named_alike xs ≡ true
    name_again is_old = comes_again named_alike xs i d within (take i xs) refl fresh says_item is_old

    pub name_once : fresh ≡ true → repeats named_alike (take i xs) ≡ false → repeats named_alike (take (i + 1) xs) ≡ false
    name_once is_new once = comes_once named_alike xs i d within (take i xs) refl fresh says_item is_new once

    pub name_next : (after : List Name) → after ≡ (if fresh then before ++ n ∷ [] else before) → fresh ≡ true → after ≡ map name (take (i + 1) xs)
    name_next after has is_new =
        has ∙ ap (λ (b : Bool). if b then before ++ n ∷ [] else before) is_new ∙ ap₂ (λ ns m. ns ++ m ∷ []) so_far is
        ∙ sym (ap (map name) (take_more xs i d within) ∙ map-append name (take i xs) (get_or xs i d ∷ []))

-- the place of a name, among columns and among their names
pub position_called : (called : List Name) (columns : List Column) (n : Name) → called ≡ map (λ column. column.name) columns
    → position (bytes_eq n) called ≡ position (λ column. bytes_eq n column.name) columns
position_called called columns n is = ap (position (bytes_eq n)) is ∙ position-map (bytes_eq n) (λ column. column.name) columns

-- keys that are texts
module _ {K : Type 0} (bytes : K → Name) where
  pub key_fresh : (ks : List K) (k : K) → not (list_any (λ b. bytes_eq (bytes k) (bytes b)) ks) ≡ not (list_any (bytes_eq (bytes k)) (map bytes ks))
  key_fresh ks k = ap not (sym (list_any-map (bytes_eq (bytes k)) bytes ks))
