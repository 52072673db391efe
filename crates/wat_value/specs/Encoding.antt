-- The bytes of values and of rows.
use Rattle.std.specs.Prelude.{◌≡◌, ℕ, ℤ, ◌+◌, ◌<◌, ◌≤◌, ◌^◌, List, [], ◌∷◌, ◌++◌, length, take, sum_by, FitsSigned}
use Rattle.std.specs.List.{flat_map, AllByRecursion}
use Rattle.std.specs.Int.{w16, w64, cast_unsigned, to_be_bytes}
use Rattle.std.specs.Str.{IsUtf8}
use Rattle.wat_value.specs.declared.value.Value.{Value}
use Rattle.wat_value.specs.declared.value.Value.TheVariants.{Null, Int, Text}

-- a count, or a length, below 65,536: 2 bytes, the highest first
unfoldable pub count_bytes : ℕ → List ℕ
count_bytes n = to_be_bytes w16 n

-- an integer of 64 bits in two's complement: 8 bytes, the highest first
unfoldable pub int_bytes : ℤ → List ℕ
int_bytes n = to_be_bytes w64 (cast_unsigned w64 n)

-- a text: its length, and its bytes
abbrev pub text_bytes : List ℕ → List ℕ
text_bytes t = count_bytes (length t) ++ t

-- a value: 0 for Null, 1 before an integer, 2 before a text
abbrev pub value_bytes : Value → List ℕ
value_bytes Null = 0 ∷ []
value_bytes (Int n) = 1 ∷ int_bytes n
value_bytes (Text t) = 2 ∷ text_bytes t

-- a row: the count of its values, and the values one after another
abbrev pub row_bytes : List Value → List ℕ
row_bytes row = count_bytes (length row) ++ flat_map value_bytes row

-- how many bytes these are
abbrev pub value_len : Value → ℕ
value_len Null = 1
value_len (Int n) = 9
value_len (Text t) = 3 + length t

abbrev pub row_len : List Value → ℕ
row_len row = 2 + sum_by value_len row

-- a text has fewer than 65,536 bytes
abbrev pub IsShortValue : Value → Type 0
IsShortValue Null = Unit {0}
IsShortValue (Int n) = Unit {0}
IsShortValue (Text t) = length t < 2 ^ 16

-- the row has fewer than 65,536 values, and each of its texts fewer than 65,536 bytes
pub record IsShort (row : List Value) : Type 0 where
  pub count : length row < 2 ^ 16
  pub values : AllByRecursion IsShortValue row

-- an integer of 64 bits, or a text in UTF-8 of fewer than 65,536 bytes
abbrev pub IsEncodableValue : Value → Type 0
IsEncodableValue Null = Unit {0}
IsEncodableValue (Int n) = FitsSigned w64 n
IsEncodableValue (Text t) = (length t < 2 ^ 16) × IsUtf8 t

-- the row has fewer than 65,536 values, and each can be encoded
pub record IsEncodable (row : List Value) : Type 0 where
  pub count : length row < 2 ^ 16
  pub values : AllByRecursion IsEncodableValue row

-- the first n bytes spell the row
pub record Spells (bytes : List ℕ) (row : List Value) (n : ℕ) : Type 0 where
  pub within : n ≤ length bytes
  pub spelled : take n bytes ≡ row_bytes row
  pub encodable : IsEncodable row

-- the bytes begin with no row's bytes
abbrev pub SpellsNone : List ℕ → Type 0
SpellsNone bytes = (row : List Value) → IsEncodable row → (rest : List ℕ) → bytes ≡ row_bytes row ++ rest → ⊥
