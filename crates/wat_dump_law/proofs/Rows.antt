-- A row that is greater than all others goes last.
use Rattle.std.proofs.Common.{◌≡◌, Bool, true, false, not, cond, List, [], ◌∷◌, ◌++◌, filter, is_some, Some, None, refl, sym, ap, ap₂, ◌∙◌}
use Rattle.std.specs.List.{find, list_all}
use Rattle.std.specs.declared.cmp.Ordering.{Ordering}
use Rattle.std.specs.declared.cmp.Ordering.TheVariants.{Less, Equal, Greater}
use Rattle.std.specs.Ordering.{is_lt, is_gt, is_eq}
use Rattle.std.proofs.lemmas.Bool.{and_parts, and_from}
use Rattle.std.proofs.lemmas.List.Folds.{list_all-append}
use Rattle.wat_list.specs.Rising.{rising}
use Rattle.wat_value.specs.declared.definition.TableDef.{TableDef}
use Rattle.wat_value.specs.Order.{key_eq}
use Rattle.wat_value.specs.Fits.{fits, key_of}
use Rattle.wat_schema.specs.Tables.{Row, Table, after_insert, by_key, has_key, with_row}

not_gt : (o : Ordering) → is_lt o ≡ true → is_gt o ≡ false
not_gt Less h = refl
not_gt Equal h = cc
not_gt Greater h = cc

not_eq : (o : Ordering) → is_lt o ≡ true → is_eq o ≡ false
not_eq Less h = refl
not_eq Equal h = cc
not_eq Greater h = cc

-- in order, all before a row are less
all_less : {X : Type 0} (cmp : X → X → Ordering) (xs : List X) (r : X) (ys : List X) → rising cmp (xs ++ r ∷ ys) ≡ true → list_all (λ other. is_lt (cmp other r)) xs ≡ true
all_less cmp [] r ys h = refl
all_less cmp (x ∷ xs) r ys h =
    let parts = and_parts (list_all (λ other. is_lt (cmp x other)) (xs ++ r ∷ ys)) (rising cmp (xs ++ r ∷ ys)) h in
    let both =
    and_parts (list_all (λ other. is_lt (cmp x other)) xs) (list_all (λ other. is_lt (cmp x other)) (r ∷ ys)) (sym (list_all-append (λ other. is_lt (cmp x other)) xs (r ∷ ys)) ∙ parts.0) in
    let here = and_parts (is_lt (cmp x r)) (list_all (λ other. is_lt (cmp x other)) ys) both.1 in
    and_from (is_lt (cmp x r)) (list_all (λ other. is_lt (cmp other r)) xs) here.0 (all_less cmp xs r ys parts.1)

module _ {X : Type 0} (p : X → Bool) where
  all_kept : (xs : List X) → list_all p xs ≡ true → filter p xs ≡ xs
  all_kept [] h = refl
  all_kept (x ∷ xs) h = let parts = and_parts (p x) (list_all p xs) h in rw parts.0 (ap (λ ys. x ∷ ys) (all_kept xs parts.1))

  module _ (q : X → Bool) (other : (x : X) → p x ≡ true → q x ≡ false) where
    none_kept : (xs : List X) → list_all p xs ≡ true → filter q xs ≡ []
    none_kept [] h = refl
    none_kept (x ∷ xs) h = let parts = and_parts (p x) (list_all p xs) h in rw (other x parts.0) (none_kept xs parts.1)

    none_found : (xs : List X) → list_all p xs ≡ true → is_some (find q xs) ≡ false
    none_found [] h = refl
    none_found (x ∷ xs) h = let parts = and_parts (p x) (list_all p xs) h in rw (other x parts.0) (none_found xs parts.1)

put_last : (def : TableDef) (row : Row) (done todo : List Row) → rising (by_key def) (done ++ row ∷ todo) ≡ true → with_row def row done ≡ done ++ row ∷ []
put_last def row done todo h =
    let less = all_less (by_key def) done row todo h in
    ap₂ (λ (a b : List Row). a ++ row ∷ b) (all_kept (λ other. is_lt (by_key def other row)) done less)
    (none_kept (λ other. is_lt (by_key def other row)) (λ other. is_gt (by_key def other row)) (λ x g. not_gt (by_key def x row) g) done less)

no_key : (x : Table) (row : Row) (todo : List Row) → rising (by_key x.def) (x.rows ++ row ∷ todo) ≡ true → has_key x (key_of x.def row) ≡ false
no_key x row todo h =
    none_found (λ other. is_lt (by_key x.def other row)) (λ other. key_eq (key_of x.def other) (key_of x.def row)) (λ y g. not_eq (by_key x.def y row) g) x.rows
    (all_less (by_key x.def) x.rows row todo h)

pub inserted_last : (x : Table) (row : Row) (todo : List Row) → fits x.def row ≡ true → rising (by_key x.def) (x.rows ++ row ∷ todo) ≡ true
    → after_insert row x ≡ Some (record x { rows = x.rows ++ row ∷ [] })
inserted_last x row todo fit h =
    ap (λ b. cond b (Some (record x { rows = with_row x.def row x.rows })) None)
    (and_from (fits x.def row) (not (has_key x (key_of x.def row))) fit (ap not (no_key x row todo h)))
    ∙ ap (λ (rows : List Row). Some (record x { rows = rows })) (put_last x.def row x.rows todo h)
