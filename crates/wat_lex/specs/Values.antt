-- What a token stands for, over its bytes.
use Rattle.std.specs.Prelude.{◌≤◌, ℕ, ◌-◌, Bool, true, false, not, ◌&&◌, ◌==◌, if◌then◌else◌, nat_lt, List, [], ◌∷◌, take, drop, Option, Some, None}
use Rattle.std.specs.Str.{IsCharBoundary, str_to_ascii_lowercase}
use Rattle.wat_lex.specs.Rules.{decimal}
use Rattle.wat_lex.specs.declared.token.Token.{Token}

-- the bytes of a token
abbrev pub token_bytes : List ℕ → Token → List ℕ
token_bytes text t = take (t.to - t.from) (drop t.from text)

-- The token is a part of the text, cut between characters.
pub record IsSlice (text : List ℕ) (t : Token) : Type 0 where
  pub ordered : t.from ≤ t.to
  pub begins : IsCharBoundary text t.from
  pub ends : IsCharBoundary text t.to

-- the bytes of a word, each capital as its small letter
abbrev pub lower_case : List ℕ → List ℕ
lower_case = str_to_ascii_lowercase

-- the value that digits spell, where it is below 2 ^ 63
unfoldable pub number_value : List ℕ → Option ℕ
number_value digits = if nat_lt (decimal digits) 9223372036854775808 then Some (decimal digits) else None

-- All but the quotes, where of two quotes the second stays. The flag says that a quote was left out right before.
abbrev pub unquoted : Bool → List ℕ → List ℕ
unquoted after_quote [] = []
unquoted after_quote (b ∷ z) = if b == 39 && not after_quote then unquoted true z else b ∷ unquoted false z

-- what stands between the quotes of a string, with one quote for each two
unfoldable pub string_text : List ℕ → List ℕ
string_text [] = []
string_text (b ∷ z) = if b == 39 then unquoted false z else []
