-- Whether a row fits the definition of its table.
use Rattle.std.specs.Prelude.{ℕ, ℤ, pos, negsuc, int_le, nat_lt, Bool, true, false, not, ◌&&◌, List, length, map, slice_index_or}
use Rattle.std.specs.Cmp.Lexicographic.{pointwise}
use Rattle.wat_value.specs.declared.value.Value.{Value}
use Rattle.wat_value.specs.declared.value.Value.TheVariants.{Null, Int, Text}
use Rattle.wat_value.specs.declared.definition.Kind.{Kind}
use Rattle.wat_value.specs.declared.definition.Kind.TheVariants.{Integer, Char, Varchar}
use Rattle.wat_value.specs.declared.definition.Column.{Column}
use Rattle.wat_value.specs.declared.definition.TableDef.{TableDef}

abbrev pub is_null : Value → Bool
is_null Null = true
is_null (Int n) = false
is_null (Text t) = false

-- a column of texts
abbrev pub is_textual : Kind → Bool
is_textual Integer = false
is_textual (Char n) = true
is_textual (Varchar n) = true

-- the greatest length of a text
abbrev pub max_length : Kind → ℕ
max_length Integer = 0
max_length (Char n) = n
max_length (Varchar n) = n

-- the value's type is the column's, and Null has every type
abbrev pub has_type : Kind → Value → Bool
has_type kind Null = true
has_type kind (Int n) = not (is_textual kind)
has_type kind (Text t) = is_textual kind

-- Null in a NOT NULL column
abbrev pub is_missing : Column → Value → Bool
is_missing column value = is_null value && not column.nullable

-- an integer is one of the kind's: an INTEGER has 32 bits
abbrev pub is_in_range : Kind → ℤ → Bool
is_in_range Integer n = int_le (negsuc 2147483647) n && int_le n (pos 2147483647)
is_in_range (Char most) n = true
is_in_range (Varchar most) n = true

-- an integer outside its column's range
abbrev pub is_out_of_range : Kind → Value → Bool
is_out_of_range kind (Int n) = not (is_in_range kind n)
is_out_of_range kind Null = false
is_out_of_range kind (Text t) = false

-- a text longer than its column allows
abbrev pub is_too_long : Kind → Value → Bool
is_too_long kind (Text t) = nat_lt (max_length kind) (length t)
is_too_long kind Null = false
is_too_long kind (Int n) = false

-- the value passes the tests of its column: by type, Null, range and length
abbrev pub fits_column : Column → Value → Bool
fits_column column value =
    has_type column.kind value && not (is_missing column value) && not (is_out_of_range column.kind value) && not (is_too_long column.kind value)

-- the row has one value per column, and each passes the tests of its column
abbrev pub fits : TableDef → List Value → Bool
fits def row = pointwise fits_column def.columns row

-- the value in a column, and Null past the last one
abbrev pub value_in : List Value → ℕ → Value
value_in row column = slice_index_or row column Null

-- the values in these columns
abbrev pub values_in : List Value → List ℕ → List Value
values_in row columns = map (value_in row) columns

-- the primary key of a row
abbrev pub key_of : TableDef → List Value → List Value
key_of def row = values_in row def.key
