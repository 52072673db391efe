-- Values that fit their columns take no more bytes than the columns are wide.
use Rattle.std.proofs.Common.{◌≡◌, ℕ, zero, suc, ◌+◌, ◌<◌, ◌≤◌, ◌^◌, Bool, true, false, not, ◌&&◌, List, [], ◌∷◌, length, slice_get, refl, sym, arith}
use Rattle.std.specs.Prelude.{sum_by, nat_lt}
use Rattle.std.specs.List.{AllByRecursion}
use Rattle.std.specs.Cmp.Lexicographic.{pointwise}
use Rattle.std.proofs.lemmas.Bool.{and_parts, both_ways}
use Rattle.std.proofs.lemmas.List.Sums.{sum_by-cons}
use borrow.Author.Tests.{ltb-true, ltb-false}
use Rattle.wat_value.specs.declared.value.Value.{Value}
use Rattle.wat_value.specs.declared.value.Value.TheVariants.{Null, Int, Text}
use Rattle.wat_value.specs.declared.definition.Kind.{Kind}
use Rattle.wat_value.specs.declared.definition.Kind.TheVariants.{Integer, Char, Varchar}
use Rattle.wat_value.specs.declared.definition.Column.{Column}
use Rattle.wat_value.specs.Encoding.{value_len, row_bytes, IsShort, IsShortValue}
use Rattle.wat_value.specs.Fits.{has_type, is_missing, is_out_of_range, is_too_long, max_length, is_textual, fits_column, value_in, values_in}
use Rattle.wat_value.specs.Widths.{width, widths, width_of, width_at, have_columns}
use Rattle.wat_value.proofs.EncodingLemmas.{length-row_bytes}

null_width : (kind : Kind) → 1 ≤ width kind
null_width Integer = omega arith
null_width (Char n) = omega arith
null_width (Varchar n) = omega arith

of_not : (b : Bool) → not b ≡ true → b ≡ false
of_not true h = sym h
of_not false h = refl

text_width : (kind : Kind) (t : List ℕ) → is_textual kind ≡ true → nat_lt (max_length kind) (length t) ≡ false → 3 + length t ≤ width kind
text_width Integer t is fits = absurd (both_ways false refl is)
text_width (Char n) t is fits = let h = ltb-false n (length t) fits in omega (arith, h)
text_width (Varchar n) t is fits = let h = ltb-false n (length t) fits in omega (arith, h)

int_width : (kind : Kind) → not (is_textual kind) ≡ true → 9 ≤ width kind
int_width Integer is = omega arith
int_width (Char n) is = absurd (both_ways false refl is)
int_width (Varchar n) is = absurd (both_ways false refl is)

value_width : (column : Column) (value : Value) → fits_column column value ≡ true → value_len value ≤ width column.kind
value_width column Null fits = null_width column.kind
value_width column (Int n) fits =
    let a = and_parts (has_type column.kind (Int n) && not (is_missing column (Int n)) && not (is_out_of_range column.kind (Int n))) (not (is_too_long column.kind (Int n))) fits in
    let b = and_parts (has_type column.kind (Int n) && not (is_missing column (Int n))) (not (is_out_of_range column.kind (Int n))) a.0 in
    int_width column.kind (and_parts (has_type column.kind (Int n)) (not (is_missing column (Int n))) b.0).0
value_width column (Text t) fits =
    let a = and_parts (has_type column.kind (Text t) && not (is_missing column (Text t)) && not (is_out_of_range column.kind (Text t))) (not (is_too_long column.kind (Text t))) fits in
    let b = and_parts (has_type column.kind (Text t) && not (is_missing column (Text t))) (not (is_out_of_range column.kind (Text t))) a.0 in
    text_width column.kind t (and_parts (has_type column.kind (Text t)) (not (is_missing column (Text t))) b.0).0 (of_not (is_too_long column.kind (Text t)) a.1)

all_widths : (columns : List Column) (row : List Value) → pointwise fits_column columns row ≡ true → sum_by value_len row ≤ widths columns
all_widths [] [] fits = omega arith
all_widths [] (v ∷ row) fits = absurd (both_ways false refl fits)
all_widths (column ∷ columns) [] fits = absurd (both_ways false refl fits)
all_widths (column ∷ columns) (v ∷ row) fits =
    let parts = and_parts (fits_column column v) (pointwise fits_column columns row) fits in
    omega (arith, value_width column v parts.0, all_widths columns row parts.1, sum_by-cons value_len v row, sum_by-cons (λ column. width column.kind) column columns)

pub row_width : (columns : List Column) (row : List Value) → pointwise fits_column columns row ≡ true → length (row_bytes row) ≤ 2 + widths columns
row_width columns row fits = omega (arith, length-row_bytes row, all_widths columns row fits)

-- the value in a column of a row that fits
width_in : (columns : List Column) (row : List Value) (i : ℕ) → pointwise fits_column columns row ≡ true → i < length columns → value_len (value_in row i) ≤ width_of (slice_get columns i)
width_in [] row i fits here = absurd (omega arith)
width_in (column ∷ columns) [] i fits here = absurd (both_ways false refl fits)
width_in (column ∷ columns) (v ∷ row) zero fits here = value_width column v (and_parts (fits_column column v) (pointwise fits_column columns row) fits).0
width_in (column ∷ columns) (v ∷ row) (suc i) fits here = width_in columns row i (and_parts (fits_column column v) (pointwise fits_column columns row) fits).1 (omega arith)

all_in : (columns : List Column) (row : List Value) (numbers : List ℕ) → pointwise fits_column columns row ≡ true → have_columns columns numbers ≡ true
    → sum_by value_len (values_in row numbers) ≤ width_at columns numbers
all_in columns row [] fits there = omega arith
all_in columns row (i ∷ numbers) fits there =
    let parts = and_parts (nat_lt i (length columns)) (have_columns columns numbers) there in
    omega (arith, width_in columns row i fits (ltb-true i (length columns) parts.0), all_in columns row numbers fits parts.1, sum_by-cons value_len (value_in row i) (values_in row numbers), sum_by-cons (λ i. width_of (slice_get columns i)) i numbers)

pub values_width : (columns : List Column) (row : List Value) (numbers : List ℕ) → pointwise fits_column columns row ≡ true → have_columns columns numbers ≡ true
    → length (row_bytes (values_in row numbers)) ≤ 2 + width_at columns numbers
values_width columns row numbers fits there = omega (arith, length-row_bytes (values_in row numbers), all_in columns row numbers fits there)

-- each value takes a byte at least, and a text more than it has
some_len : (v : Value) → 1 ≤ value_len v
some_len Null = omega arith
some_len (Int n) = omega arith
some_len (Text t) = omega arith

count_len : (row : List Value) → length row ≤ sum_by value_len row
count_len [] = omega arith
count_len (v ∷ row) = omega (arith, some_len v, count_len row, sum_by-cons value_len v row)

short_value : (v : Value) → value_len v < 2 ^ 16 → IsShortValue v
short_value Null h = tt
short_value (Int n) h = tt
short_value (Text t) h = omega arith

short_values : (row : List Value) → sum_by value_len row < 2 ^ 16 → AllByRecursion IsShortValue row
short_values [] h = tt
short_values (v ∷ row) h = (short_value v (omega (arith, sum_by-cons value_len v row)), short_values row (omega (arith, sum_by-cons value_len v row)))

pub short_row : (row : List Value) → length (row_bytes row) < 2 ^ 16 → IsShort row
short_row row h = record { count = omega (arith, length-row_bytes row, count_len row); values = short_values row (omega (arith, length-row_bytes row)) }
