-- Tables with one schema and the same rows at all keys are the same.
use Rattle.std.proofs.Common.{◌≡◌, ℕ, ◌≤◌, ◌==◌, Bool, true, false, List, [], ◌∷◌, map, Option, Some, None, refl, sym, ap, ap₂, ◌∙◌, inl, inr, arith}
use Rattle.std.specs.List.{find, list_all}
use Rattle.std.specs.Option.{option_and_then}
use Rattle.std.proofs.lemmas.Bool.{and_parts, eq-eqb, eqb-true, ne_eqb, cases_Bool}
use Rattle.wat_value.specs.declared.value.Value.{Value}
use Rattle.wat_value.specs.declared.definition.TableDef.{TableDef}
use Rattle.wat_value.specs.declared.definition.IndexDef.{IndexDef}
use Rattle.wat_value.specs.Fits.{fits, key_of}
use Rattle.wat_schema.specs.Catalog.{Listing, ascend, numbers_of}
use Rattle.wat_list.specs.Rising.{rising}
use Rattle.wat_schema.specs.Tables.{Row, Table, Tables, by_key, row_at, row_with, is_table, are_tables, listing_of, catalog_of}
use Rattle.wat_schema.proofs.Keyed.{alike}
use Rattle.wat_schema.proofs.Order.{Begins, begins}
use Rattle.wat_schema.proofs.Placed.{found_first, found_later, has_n, parts_of}

abbrev row_of : List Table → ℕ → List Value → Option Row
row_of xs n key = option_and_then (λ x. row_with x key) (find (has_n n) xs)

none_found : (n low high : ℕ) (xs : List Table) → n ≤ low → ascend low (numbers_of (map listing_of xs)) high ≡ true → find (has_n n) xs ≡ None
none_found n low high [] less order = refl
none_found n low high (x ∷ xs) less order =
    let b = begins low x.def.number (numbers_of (map listing_of xs)) high order in
    let above = b.above in
    found_later (has_n n) x xs (ne_eqb n x.def.number (λ e. omega arith)) ∙ none_found n x.def.number high xs (omega arith) b.rest

in_order_of : (x : Table) → is_table x ≡ true → rising (by_key x.def) x.rows ≡ true
in_order_of x ok = (and_parts (list_all (fits x.def) x.rows) (rising (by_key x.def) x.rows) ok).1

all_alike : (low high : ℕ) (xs ys : List Table) → ascend low (numbers_of (map listing_of xs)) high ≡ true → map listing_of xs ≡ map listing_of ys
    → list_all is_table xs ≡ true → list_all is_table ys ≡ true → ((n : ℕ) (key : List Value) → row_of xs n key ≡ row_of ys n key) → xs ≡ ys
all_alike low high [] [] order same ok also each = refl
all_alike low high [] (y ∷ ys) order same ok also each = absurd (let no : [] ≡ listing_of y ∷ map listing_of ys = same in cc)
all_alike low high (x ∷ xs) [] order same ok also each = absurd (let no : listing_of x ∷ map listing_of xs ≡ [] = same in cc)
all_alike low high (x ∷ xs) (y ∷ ys) order same ok also each = ap₂ (λ a rest. a ∷ rest) first (all_alike x.def.number high xs ys b.rest tails x_ok.1 y_ok.1 others)
  where
    b : Begins low x.def.number (numbers_of (map listing_of xs)) high
    b = begins low x.def.number (numbers_of (map listing_of xs)) high order

    both : listing_of x ∷ map listing_of xs ≡ listing_of y ∷ map listing_of ys
    both = same

    heads : listing_of x ≡ listing_of y
    heads = let e = both in cc

    tails : map listing_of xs ≡ map listing_of ys
    tails = let e = both in cc

    def : x.def ≡ y.def
    def = ap (λ l. l.def) heads

    indexes : x.indexes ≡ y.indexes
    indexes = ap (λ l. l.indexes) heads

    x_ok : (is_table x ≡ true) × (list_all is_table xs ≡ true)
    x_ok = and_parts (is_table x) (list_all is_table xs) ok

    y_ok : (is_table y ≡ true) × (list_all is_table ys ≡ true)
    y_ok = and_parts (is_table y) (list_all is_table ys) also

    x_here : (x.def.number == x.def.number) ≡ true
    x_here = eq-eqb x.def.number x.def.number refl

    y_here : (x.def.number == y.def.number) ≡ true
    y_here = eq-eqb x.def.number y.def.number (ap (λ d. d.number) def)

    one_key : (key : List Value) → row_with x key ≡ row_with y key
    one_key key =
        sym (ap (option_and_then (λ z. row_with z key)) (found_first (has_n x.def.number) x xs x_here)) ∙ each x.def.number key
        ∙ ap (option_and_then (λ z. row_with z key)) (found_first (has_n x.def.number) y ys y_here)

    y_order : rising (by_key x.def) y.rows ≡ true
    y_order = ap (λ d. rising (by_key d) y.rows) def ∙ in_order_of y y_ok.0

    keyed : (key : Row) → row_with x key ≡ row_with (record y { def = x.def }) key
    keyed key = one_key key ∙ ap (λ d. row_with (record y { def = d }) key) (sym def)

    rows : x.rows ≡ y.rows
    rows = alike (key_of x.def) x.rows y.rows (in_order_of x x_ok.0) y_order keyed

    first : x ≡ y
    first = λ i. record { def = def i; indexes = indexes i; rows = rows i }

    y_tail : ascend x.def.number (numbers_of (map listing_of ys)) high ≡ true
    y_tail = ap (λ ls. ascend x.def.number (numbers_of ls) high) (sym tails) ∙ b.rest

    others : (n : ℕ) (key : List Value) → row_of xs n key ≡ row_of ys n key
    others n key = elim (cases_Bool (n == x.def.number)) [
      | inl here ↦
          let is : n ≡ x.def.number = eqb-true n x.def.number here in
          ap (option_and_then (λ z. row_with z key)) (none_found n x.def.number high xs (omega arith) b.rest ∙ sym (none_found n x.def.number high ys (omega arith) y_tail))
      | inr other ↦
          let not_y : (n == y.def.number) ≡ false = ap (λ d. n == d.number) (sym def) ∙ other in
          sym (ap (option_and_then (λ z. row_with z key)) (found_later (has_n n) x xs other)) ∙ each n key
          ∙ ap (option_and_then (λ z. row_with z key)) (found_later (has_n n) y ys not_y)
    ]

pub same_tables : (a b : Tables) → are_tables a ≡ true → are_tables b ≡ true → catalog_of a ≡ catalog_of b → ((number : ℕ) (key : List Value) → row_at a number key ≡ row_at b number key) → a ≡ b
same_tables a b ok also schema rows =
    let p = parts_of a ok in
    let q = parts_of b also in
    let tables : a.tables ≡ b.tables = all_alike 0 a.next a.tables b.tables p.order (ap (λ c. c.tables) schema) p.tables q.tables rows in
    let next : a.next ≡ b.next = ap (λ c. c.next) schema in
    λ i. record { tables = tables i; next = next i }
