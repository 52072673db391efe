-- The tokens of a spelling, and how they are written.
use Rattle.std.specs.Prelude.{ℕ, Bool, true, false, ◌||◌, if◌then◌else◌, List, [], ◌∷◌, ◌++◌, codes, decimal}
use Rattle.wat_word.specs.Words.{spelling}
use Rattle.wat_word.specs.declared.keyword.Keyword.{Keyword}
use Rattle.wat_lex.specs.Rules.{in_quotes}
use Rattle.wat_spell.specs.declared.symbol.Symbol.{Symbol}
use Rattle.wat_spell.specs.declared.symbol.Symbol.TheVariants as s

pub data Token : Type 0 where
  -- a reserved word
  word : Keyword → Token
  name : List ℕ → Token
  number : ℕ → Token
  -- a number below zero: a minus and its digits, with nothing between
  negative : ℕ → Token
  -- a text, which is written in quotes
  quoted : List ℕ → Token
  symbol : Symbol → Token

abbrev pub symbol_text : Symbol → List ℕ
symbol_text s.Open = codes "("
symbol_text s.OpenTight = codes "("
symbol_text s.Close = codes ")"
symbol_text s.Comma = codes ","
symbol_text s.Dot = codes "."
symbol_text s.Star = codes "*"
symbol_text s.Plus = codes "+"
symbol_text s.Minus = codes "-"
symbol_text s.Slash = codes "/"
symbol_text s.Concat = codes "||"
symbol_text s.Equal = codes "="
symbol_text s.Unequal = codes "<>"
symbol_text s.Less = codes "<"
symbol_text s.AtMost = codes "<="
symbol_text s.Greater = codes ">"
symbol_text s.AtLeast = codes ">="

-- reserved words in capitals, and texts in quotes
abbrev pub token_text : Token → List ℕ
token_text (word w) = spelling w
token_text (name n) = n
token_text (number n) = decimal n
token_text (negative n) = codes "-" ++ decimal n
token_text (quoted t) = in_quotes t
token_text (symbol x) = symbol_text x

-- whether no space stands before the symbol
abbrev pub is_tight_left : Symbol → Bool
is_tight_left s.Open = false
is_tight_left s.OpenTight = true
is_tight_left s.Close = true
is_tight_left s.Comma = true
is_tight_left s.Dot = true
is_tight_left s.Star = false
is_tight_left s.Plus = false
is_tight_left s.Minus = false
is_tight_left s.Slash = false
is_tight_left s.Concat = false
is_tight_left s.Equal = false
is_tight_left s.Unequal = false
is_tight_left s.Less = false
is_tight_left s.AtMost = false
is_tight_left s.Greater = false
is_tight_left s.AtLeast = false

-- whether no space stands behind the symbol
abbrev pub is_tight_right : Symbol → Bool
is_tight_right s.Open = true
is_tight_right s.OpenTight = true
is_tight_right s.Close = false
is_tight_right s.Comma = false
is_tight_right s.Dot = true
is_tight_right s.Star = false
is_tight_right s.Plus = false
is_tight_right s.Minus = false
is_tight_right s.Slash = false
is_tight_right s.Concat = false
is_tight_right s.Equal = false
is_tight_right s.Unequal = false
is_tight_right s.Less = false
is_tight_right s.AtMost = false
is_tight_right s.Greater = false
is_tight_right s.AtLeast = false

abbrev pub is_tight_before : Token → Bool
is_tight_before (word w) = false
is_tight_before (name n) = false
is_tight_before (number n) = false
is_tight_before (negative n) = false
is_tight_before (quoted t) = false
is_tight_before (symbol x) = is_tight_left x

abbrev pub is_tight_behind : Token → Bool
is_tight_behind (word w) = false
is_tight_behind (name n) = false
is_tight_behind (number n) = false
is_tight_behind (negative n) = false
is_tight_behind (quoted t) = false
is_tight_behind (symbol x) = is_tight_right x

-- what stands between two tokens: a space, unless one of them is tight there
abbrev pub gap : Bool → List ℕ
gap is_tight = if is_tight then [] else codes " "

-- the text of these tokens, one behind the other
abbrev pub written : List Token → List ℕ
written [] = []
written (t ∷ []) = token_text t
written (t ∷ u ∷ more) = token_text t ++ gap (is_tight_behind t || is_tight_before u) ++ written (u ∷ more)
