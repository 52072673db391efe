-- What the parts of a row's bytes spell: for the contracts of the decoder's own functions.
use Rattle.std.specs.Prelude.{◌≡◌, ℕ, ◌<◌, ◌≤◌, ◌^◌, List, ◌++◌, length, take}
use Rattle.std.specs.Str.{IsUtf8}
use Rattle.wat_value.specs.declared.value.Value.{Value}
use Rattle.wat_value.specs.Encoding.{text_bytes, value_bytes, IsEncodableValue}

-- the first n bytes spell the text, behind its length
pub record SpellsText (bytes text : List ℕ) (n : ℕ) : Type 0 where
  pub within : n ≤ length bytes
  pub spelled : take n bytes ≡ text_bytes text
  pub short : length text < 2 ^ 16
  pub utf8 : IsUtf8 text

-- the first n bytes spell the value
pub record SpellsValue (bytes : List ℕ) (value : Value) (n : ℕ) : Type 0 where
  pub within : n ≤ length bytes
  pub spelled : take n bytes ≡ value_bytes value
  pub encodable : IsEncodableValue value

-- the bytes begin with no text's bytes
abbrev pub SpellsNoText : List ℕ → Type 0
SpellsNoText bytes = (text : List ℕ) → length text < 2 ^ 16 → IsUtf8 text → (rest : List ℕ) → bytes ≡ text_bytes text ++ rest → ⊥

-- the bytes begin with no value's bytes
abbrev pub SpellsNoValue : List ℕ → Type 0
SpellsNoValue bytes = (value : Value) → IsEncodableValue value → (rest : List ℕ) → bytes ≡ value_bytes value ++ rest → ⊥
