-- A change of a row is looked for among the changes that stand.
use Rattle.std.proofs.Common.{◌≡◌, ℕ, zero, suc, ◌+◌, ◌<◌, ◌==◌, ◌&&◌, ◌||◌, Bool, true, false, List, [], ◌∷◌, length, take, Option, Some, None, refl, sym, ap, ◌∙◌}
use Rattle.std.specs.List.{list_any, slice_get}
use Rattle.std.proofs.lemmas.Bool.{or_left, or_right}
use Rattle.std.proofs.lemmas.List.Folds.{list_any_more}
use Rattle.std.proofs.lemmas.Option.{get_or_from_slice_get}
use Rattle.wat_value.specs.declared.value.Value.{Value}
use Rattle.wat_value.specs.declared.definition.TableDef.{TableDef}
use Rattle.wat_value.specs.declared.change.Change.{Change}
use Rattle.wat_value.specs.Changes.{changed_table}
use Rattle.wat_value.specs.Order.{key_eq}
use Rattle.wat_schema.specs.Catalog.{Catalog, def_at}
use Rattle.wat_schema.specs.Changes.{changed_key}
use Rattle.wat_recover.specs.Asked.{is_of_row, has_changed_key}

-- what stands at a place is one of them
pub one_there : {X : Type 0} (p : X → Bool) (xs : List X) (i : ℕ) (x : X) → slice_get xs i ≡ Some x → p x ≡ true → list_any p xs ≡ true
one_there p [] i x at is = absurd (let no : None ≡ Some x = at in cc)
one_there p (y ∷ xs) zero x at is =
    let same : y ≡ x = (let e : Some y ≡ Some x = at in cc) in
    or_left (p y) (list_any p xs) (ap p same ∙ is)
one_there p (y ∷ xs) (suc i) x at is = or_right (p y) (list_any p xs) (one_there p xs i x at is)

-- one more that isn't
pub none_more : {X : Type 0} (p : X → Bool) (xs : List X) (i : ℕ) (x : X) → i < length xs → slice_get xs i ≡ Some x → list_any p (take i xs) ≡ false → p x ≡ false → list_any p (take (i + 1) xs) ≡ false
none_more p xs i x within at none isnt = list_any_more p xs i x within ∙ (λ j. none j || (ap p (get_or_from_slice_get xs i x x at) ∙ isnt) j)

-- a change is of the row of the table and key, by the table's definition
abbrev pub of_this : TableDef → ℕ → List Value → Change → Bool
of_this def table key change = (table == changed_table change) && key_eq key (changed_key def change)

pub of_row_by : (c : Catalog) (table : ℕ) (key : List Value) (def : TableDef) (changes : List Change) → def_at c table ≡ Some def → list_any (is_of_row c table key) changes ≡ list_any (of_this def table key) changes
of_row_by c table key def changes at = ap (λ o. list_any (λ change. (table == changed_table change) && has_changed_key o key change) changes) at
