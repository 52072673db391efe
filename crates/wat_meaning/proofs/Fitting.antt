-- Rows whose values have the types of their columns, and pass their tests.
use Rattle.std.proofs.Common.{◌≡◌, ℕ, zero, suc, ◌==◌, Bool, true, false, not, ◌&&◌, if◌then◌else◌, List, [], ◌∷◌, map, Some, slice_get, slice_set, refl, sym, ap, ap₂, ◌∙◌}
use Rattle.std.specs.List.{list_any, list_all, flat_map, zip}
use Rattle.std.specs.Cmp.Lexicographic.{pointwise}
use Rattle.std.proofs.lemmas.Bool.{and_parts, and_from, or_parts, eq-eqb}
use Rattle.wat_value.specs.declared.value.Value.{Value}
use Rattle.wat_value.specs.declared.definition.Column.{Column}
use Rattle.wat_value.specs.declared.definition.TableDef.{TableDef}
use Rattle.wat_value.specs.Fits.{has_type, is_missing, is_out_of_range, is_too_long, fits_column, fits, value_in}
use Rattle.wat_schema.specs.declared.refusal.Refusal.{Refusal}
use Rattle.wat_schema.specs.declared.refusal.Refusal.TheVariants.{NullValue, OutOfRange, TooLong}
use Rattle.wat_schema.specs.Tables.{Row}
use Rattle.wat_meaning.specs.Meaning.{column_fault, row_faults}
use Rattle.wat_meaning.proofs.Passed.{both_empty}

abbrev pub has_kind : Column → Value → Bool
has_kind column value = has_type column.kind value

-- a value for each column, of its type
abbrev pub is_typed : List Column → Row → Bool
is_typed columns row = pointwise has_kind columns row

-- ---- a row without faults fits

fault_free : (type missing range long : Bool) (a b c : Refusal) → type ≡ true → (if missing then a ∷ [] else if range then b ∷ [] else if long then c ∷ [] else []) ≡ []
    → (type && not missing && not range && not long) ≡ true
fault_free type true range long a b c is h = cc
fault_free type false true long a b c is h = cc
fault_free type false false true a b c is h = cc
fault_free type false false false a b c is h = rw is refl

one_fits : (column : Column) (value : Value) → has_kind column value ≡ true → column_fault (column, value) ≡ [] → fits_column column value ≡ true
one_fits column value is none =
    fault_free (has_kind column value) (is_missing column value) (is_out_of_range column.kind value) (is_too_long column.kind value) (NullValue column.name) (OutOfRange column.name) (TooLong column.name) is none

typed_fits : (columns : List Column) (row : Row) → is_typed columns row ≡ true → flat_map column_fault (zip columns row) ≡ [] → pointwise fits_column columns row ≡ true
typed_fits [] [] is none = refl
typed_fits [] (w ∷ ws) is none = cc
typed_fits (c ∷ cs) [] is none = cc
typed_fits (c ∷ cs) (w ∷ ws) is none =
    let i = and_parts (has_kind c w) (is_typed cs ws) is in
    let n = both_empty (column_fault (c, w)) (flat_map column_fault (zip cs ws)) none in
    and_from (fits_column c w) (pointwise fits_column cs ws) (one_fits c w i.0 n.0) (typed_fits cs ws i.1 n.1)

pub all_fit : (def : TableDef) (rows : List Row) → list_all (is_typed def.columns) rows ≡ true → row_faults def rows ≡ [] → list_all (fits def) rows ≡ true
all_fit def [] is none = refl
all_fit def (row ∷ rows) is none =
    let i = and_parts (is_typed def.columns row) (list_all (is_typed def.columns) rows) is in
    let n = both_empty (flat_map column_fault (zip def.columns row)) (row_faults def rows) none in
    and_from (fits def row) (list_all (fits def) rows) (typed_fits def.columns row i.0 n.0) (all_fit def rows i.1 n.1)

-- a row that fits is typed
one_typed : (column : Column) (value : Value) → fits_column column value ≡ true → has_kind column value ≡ true
one_typed column value h =
    (and_parts (has_kind column value) (not (is_missing column value))
    (and_parts (has_kind column value && not (is_missing column value)) (not (is_out_of_range column.kind value))
    (and_parts (has_kind column value && not (is_missing column value) && not (is_out_of_range column.kind value)) (not (is_too_long column.kind value)) h).0).0).0

pub fits_typed : (columns : List Column) (row : Row) → pointwise fits_column columns row ≡ true → is_typed columns row ≡ true
fits_typed [] [] h = refl
fits_typed [] (w ∷ ws) h = cc
fits_typed (c ∷ cs) [] h = cc
fits_typed (c ∷ cs) (w ∷ ws) h =
    let p = and_parts (fits_column c w) (pointwise fits_column cs ws) h in
    and_from (has_kind c w) (is_typed cs ws) (one_typed c w p.0) (fits_typed cs ws p.1)

-- ---- one value changed

pub typed_set : (columns : List Column) (row : Row) (i : ℕ) (value : Value) → is_typed columns row ≡ true → ((column : Column) → slice_get columns i ≡ Some column → has_kind column value ≡ true)
    → is_typed columns (slice_set row i value) ≡ true
typed_set [] [] i value is goes = refl
typed_set [] (w ∷ ws) i value is goes = cc
typed_set (c ∷ cs) [] i value is goes = cc
typed_set (c ∷ cs) (w ∷ ws) zero value is goes =
    let p = and_parts (has_kind c w) (is_typed cs ws) is in
    and_from (has_kind c value) (is_typed cs ws) (goes c refl) p.1
typed_set (c ∷ cs) (w ∷ ws) (suc i) value is goes =
    let p = and_parts (has_kind c w) (is_typed cs ws) is in
    and_from (has_kind c w) (is_typed cs (slice_set ws i value)) p.0 (typed_set cs ws i value p.1 goes)

other_value : (row : Row) (i k : ℕ) (value : Value) → ¬ (k ≡ i) → value_in (slice_set row i value) k ≡ value_in row k
other_value [] i k value h = refl
other_value (w ∷ ws) zero zero value h = absurd (h refl)
other_value (w ∷ ws) zero (suc k) value h = refl
other_value (w ∷ ws) (suc i) zero value h = refl
other_value (w ∷ ws) (suc i) (suc k) value h = other_value ws i k value (λ e. h (ap suc e))

pub other_values : (row : Row) (i : ℕ) (value : Value) (key : List ℕ) → list_any (λ k. k == i) key ≡ false → map (value_in (slice_set row i value)) key ≡ map (value_in row) key
other_values row i value [] h = refl
other_values row i value (k ∷ ks) h =
    let p = or_parts (k == i) (list_any (λ z. z == i) ks) h in
    ap₂ (λ (a : Value) (rest : List Value). a ∷ rest) (other_value row i k value (λ e. let is : (k == i) ≡ true = eq-eqb k i e in let no : true ≡ false = sym is ∙ p.0 in cc)) (other_values row i value ks p.1)
