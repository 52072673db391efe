-- What a row that fits a table takes in bytes, where the table breaks no rule.
use Rattle.std.proofs.Common.{◌≡◌, ℕ, suc, zero, ◌+◌, ◌≤◌, ◌==◌, Bool, true, false, not, ◌&&◌, ◌||◌, nat_le, nat_lt, List, [], ◌∷◌, ◌++◌, length, slice_get, Option, Some, None, is_none, refl, sym, ap, subst, ◌∙◌, inl, inr, arith}
use Rattle.std.specs.List.{find, list_all}
use Rattle.std.specs.Option.{option_map_or}
use Rattle.std.proofs.lemmas.Bool.{and_parts, and_from, or_parts, cases_Bool, leb-false, lt-ltb, ltb-false}
use Rattle.std.proofs.lemmas.List.{append-nil}
use Rattle.std.proofs.lemmas.List.Folds.{list_all-append}
use Rattle.std.proofs.lemmas.List.Sums.{sum_by-append}
use Rattle.wat_value.specs.declared.definition.Column.{Column}
use Rattle.wat_value.specs.declared.definition.TableDef.{TableDef}
use Rattle.wat_value.specs.declared.definition.IndexDef.{IndexDef}
use Rattle.wat_value.specs.declared.value.Value.{Value}
use Rattle.wat_value.specs.Encoding.{row_bytes}
use Rattle.wat_value.specs.Fits.{fits, key_of, values_in}
use Rattle.wat_value.specs.Indexes.{index_columns, index_key}
use Rattle.wat_value.specs.Widths.{have_columns, width_at, width_of, widths}
use Rattle.wat_value.proofs.WidthLemmas.{row_width, values_width}
use Rattle.wat_schema.specs.Catalog.{Listing, repeats}
use Rattle.wat_schema.specs.Definitions.{bad_definition, bad_index, index_rules, is_bad_key, is_definition, lacks_column, may_be_null, table_rules}
use Rattle.wat_schema.specs.Stored.{are_indexes, is_index, is_whole}
use Rattle.wat_schema.proofs.Again.{IsNext, good_of, next_of}
use Rattle.wat_schema.proofs.Keeping.{none_broken, unindexed}
use Rattle.wat_schema.proofs.Placed.{found_first, found_later}

-- what the rules say of a table's widths
record IsNarrow (def : TableDef) : Type 0 where
  row : 2 + widths def.columns ≤ 3500
  key : width_at def.columns def.key ≤ 400
  there : have_columns def.columns def.key ≡ true

none_lacks : (columns : List Column) (numbers : List ℕ) → lacks_column columns numbers ≡ false → have_columns columns numbers ≡ true
none_lacks columns [] h = refl
none_lacks columns (i ∷ is) h =
    let parts = or_parts (nat_le (length columns) i) (lacks_column columns is) h in
    and_from (nat_lt i (length columns)) (have_columns columns is) (lt-ltb i (length columns) (leb-false (length columns) i parts.0)) (none_lacks columns is parts.1)

columns_of : (def : TableDef) (numbers : List ℕ) → is_bad_key def.columns numbers ≡ false → have_columns def.columns numbers ≡ true
columns_of def numbers h = none_lacks def.columns numbers (or_parts (repeats ◌==◌ numbers) (lacks_column def.columns numbers) h).1

narrow : (t : Listing) → is_whole t ≡ true → IsNarrow t.def
narrow t whole =
    let def = t.def in
    let rules = table_rules false def.columns (def.key ∷ []) in
    let kept = (and_parts (not (may_be_null def.columns def.key)) (is_none (bad_definition false def.columns (def.key ∷ []))) (good_of t whole).definition).1 in
    let one : def.key ++ [] ≡ def.key = append-nil def.key in
    let wide : nat_lt 3500 (2 + widths def.columns) ≡ false = none_broken rules 1 5 (nat_lt 3500 (2 + widths def.columns)) kept refl in
    let long : nat_lt 400 (width_at def.columns (def.key ++ [])) ≡ false = none_broken rules 1 6 (nat_lt 400 (width_at def.columns (def.key ++ []))) kept refl in
    let bad : is_bad_key def.columns (def.key ++ []) ≡ false = none_broken rules 1 2 (is_bad_key def.columns (def.key ++ [])) kept refl in
    record {
      row = ltb-false 3500 (2 + widths def.columns) wide;
      key = subst (λ key. width_at def.columns key ≤ 400) one (ltb-false 400 (width_at def.columns (def.key ++ [])) long);
      there = columns_of def def.key (subst (λ key. is_bad_key def.columns key ≡ false) one bad);
    }

pub wide_row : (t : Listing) (row : List Value) → is_whole t ≡ true → fits t.def row ≡ true → length (row_bytes row) ≤ 3500
wide_row t row whole fit =
    let n = narrow t whole in
    let bound = n.row in
    let taken = row_width t.def.columns row fit in
    omega arith

pub wide_key : (t : Listing) (row : List Value) → is_whole t ≡ true → fits t.def row ≡ true → length (row_bytes (key_of t.def row)) ≤ 402
wide_key t row whole fit =
    let n = narrow t whole in
    let bound = n.key in
    let taken = values_width t.def.columns row t.def.key fit n.there in
    omega arith

-- an index that stands breaks no rule
index_found : (def : TableDef) (number : ℕ) (indexes : List IndexDef) (p : IndexDef → Bool) (index : IndexDef) → are_indexes def number indexes ≡ true → find p indexes ≡ Some index → is_index def index ≡ true
index_found def number [] p index good h = absurd (let no : None ≡ Some index = h in cc)
index_found def number (i ∷ indexes) p index good h =
    let next = next_of def number i indexes good in
    elim (cases_Bool (p i)) [
      | inl here ↦
          let found : Some i ≡ Some index = sym (found_first p i indexes here) ∙ h in
          let is : i ≡ index = cc in
          ap (is_index def) (sym is) ∙ next.good
      | inr other ↦ index_found def (suc number) indexes p index next.rest (sym (found_later p i indexes other) ∙ h)
    ]

-- the columns of an index and those of the key
joined : (t : Listing) (row : List Value) (columns : List ℕ) → fits t.def row ≡ true → have_columns t.def.columns columns ≡ true → have_columns t.def.columns t.def.key ≡ true
    → width_at t.def.columns columns + width_at t.def.columns t.def.key ≤ 900 → length (row_bytes (values_in row (columns ++ t.def.key))) ≤ 902
joined t row columns fit these those bound =
    let def = t.def in
    let all : have_columns def.columns (columns ++ def.key) ≡ true =
    list_all-append (λ i. nat_lt i (length def.columns)) columns def.key ∙ and_from (have_columns def.columns columns) (have_columns def.columns def.key) these those in
    let width : width_at def.columns (columns ++ def.key) ≡ width_at def.columns columns + width_at def.columns def.key = sum_by-append (λ i. width_of (slice_get def.columns i)) columns def.key in
    let taken = values_width def.columns row (columns ++ def.key) fit all in
    omega arith

pub wide_index : (t : Listing) (number : ℕ) (row : List Value) → is_whole t ≡ true → fits t.def row ≡ true → length (row_bytes (index_key t.def t.indexes number row)) ≤ 902
wide_index t zero row whole fit = let key = wide_key t row whole fit in omega arith
wide_index t (suc n) row whole fit = by (find (λ index. suc n == index.number) t.indexes) refl
  where
    by : (o : Option IndexDef) → find (λ index. suc n == index.number) t.indexes ≡ o → length (row_bytes (values_in row (option_map_or (λ index. index.columns) o [] ++ t.def.key))) ≤ 902
    by None h = let key = wide_key t row whole fit in omega arith
    by (Some index) h =
        let def = t.def in
        let table = narrow t whole in
        let good : is_index def index ≡ true = index_found def 1 t.indexes (λ i. suc n == i.number) index (good_of t whole).indexes h in
        let rules = index_rules (unindexed def) index.columns in
        let bad : is_bad_key def.columns index.columns ≡ false = none_broken rules 1 0 (is_bad_key def.columns index.columns) good refl in
        let wide : nat_lt 900 (width_at def.columns index.columns + width_at def.columns def.key) ≡ false =
        none_broken rules 1 3 (nat_lt 900 (width_at def.columns index.columns + width_at def.columns def.key)) good refl in
        joined t row index.columns fit (columns_of def index.columns bad) table.there (ltb-false 900 (width_at def.columns index.columns + width_at def.columns def.key) wide)
