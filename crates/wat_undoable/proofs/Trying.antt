-- What is known of rows, when one is set.
use Rattle.std.proofs.Common.{◌≡◌, ℕ, zero, suc, ◌+◌, ◌<◌, ◌==◌, ◌&&◌, Bool, true, false, List, [], ◌∷◌, ◌++◌, length, slice_get, Option, Some, None, refl, sym, ◌∙◌, ap, subst, arith, length-append, if◌then◌else◌}
use Rattle.std.specs.Option.{option_and_then}
use Rattle.wat_value.specs.Order.{key_eq}
use Rattle.wat_rows.specs.Rows.{Row}
use Rattle.wat_directory.specs.Known.{place_in}
use Rattle.wat_undoable.specs.declared.trial.Trial.{Trial}
use Rattle.wat_undoable.specs.declared.trial.Undone.{Undone}
use Rattle.wat_undoable.specs.Trial.{undone_at, IsPlaced, IsNew, SetsUndone}

last_at : (xs : List Undone) (x : Undone) → slice_get (xs ++ x ∷ []) (length xs) ≡ Some x
last_at [] x = refl
last_at (y ∷ xs) x = last_at xs x

front_at : (xs : List Undone) (x : Undone) (i : ℕ) → i < length xs → slice_get (xs ++ x ∷ []) i ≡ slice_get xs i
front_at [] x i less = absurd (omega (arith, less))
front_at (y ∷ xs) x zero less = refl
front_at (y ∷ xs) x (suc i) less = front_at xs x i (omega (arith, less))

pub new_trial : (trial : Trial) → ((table : ℕ) (key : Row) → place_in trial.places table key ≡ None) → IsNew trial
new_trial trial none = record {
  placed = λ table key place is. let no : None ≡ Some place = sym (none table key) ∙ is in cc;
  none = λ table key. ap (option_and_then (slice_get trial.rows.items)) (none table key);
}

module _ (table : ℕ) (key : Row) (undone : Undone) (old new : Trial) (place : ℕ) (placed : IsPlaced old) (at : place ≡ length old.rows.items) (rows : new.rows.items ≡ old.rows.items ++ undone ∷ [])
    (places : (t : ℕ) (k : Row) → place_in new.places t k ≡ (if (table == t) && key_eq key k then Some place else place_in old.places t k)) where
  longer : length new.rows.items ≡ length old.rows.items + 1
  longer = omega (arith, ap length rows, length-append old.rows.items (undone ∷ []))

  placed_by : (t : ℕ) (k : Row) (p : ℕ) (b : Bool) → (if b then Some place else place_in old.places t k) ≡ Some p → p < length new.rows.items
  placed_by t k p true is = let e : place ≡ p = cc in omega (arith, e, at, longer)
  placed_by t k p false is = omega (arith, placed t k p is, longer)

  front_by : (o : Option ℕ) → ((p : ℕ) → o ≡ Some p → p < length old.rows.items) → option_and_then (slice_get new.rows.items) o ≡ option_and_then (slice_get old.rows.items) o
  front_by None below = refl
  front_by (Some p) below = ap (λ (l : List Undone). slice_get l p) rows ∙ front_at old.rows.items undone p (below p refl)

  at_by : (t : ℕ) (k : Row) (b : Bool) → place_in new.places t k ≡ (if b then Some place else place_in old.places t k) → undone_at new t k ≡ (if b then Some undone else undone_at old t k)
  at_by t k true is = ap (option_and_then (slice_get new.rows.items)) is ∙ (λ i. slice_get (rows i) (at i)) ∙ last_at old.rows.items undone
  at_by t k false is = ap (option_and_then (slice_get new.rows.items)) is ∙ front_by (place_in old.places t k) (placed t k)

  pub sets : SetsUndone table key undone old new
  sets = record {
    placed = λ t k p is. placed_by t k p ((table == t) && key_eq key k) (sym (places t k) ∙ is);
    at = λ t k. at_by t k ((table == t) && key_eq key k) (places t k);
  }
