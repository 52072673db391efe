-- The rules of tokens, of blanks and of comments: over the bytes of one, and what stands behind them.
use Rattle.std.specs.Prelude.{◌≡◌, ◌≢◌, ◌<◌, ℕ, ◌+◌, ◌-◌, ◌*◌, ◌^◌, ◌⊎◌, Bool, true, false, not, ◌&&◌, ◌||◌, if◌then◌else◌, ◌==◌, List, [], ◌∷◌, ◌++◌, length, slice_index, codes}
use Rattle.std.specs.Char.{is_ascii_digit}
use Rattle.std.specs.List.{fold, list_all, list_any, flat_map}
use Rattle.wat_word.specs.Words.{is_word_byte, is_word}
use Rattle.wat_lex.specs.declared.token.TokenKind.{TokenKind}
use Rattle.wat_lex.specs.declared.token.TokenKind.TheVariants.{Word, Number, Quoted, Symbol, Bad}
use Rattle.wat_lex.specs.declared.token.Token.{Token}

-- space, tab, carriage return and line feed
abbrev pub blanks : List ℕ
blanks = 32 ∷ 9 ∷ 13 ∷ 10 ∷ []

abbrev pub is_blank : ℕ → Bool
is_blank b = list_any (λ x. b == x) blanks

abbrev pub symbols : List ℕ
symbols = codes "(),;.*+-/=<>"

abbrev pub is_symbol : ℕ → Bool
is_symbol b = list_any (λ x. b == x) symbols

-- the symbols of two characters
abbrev pub pairs : List (List ℕ)
pairs = codes "<>" ∷ codes "<=" ∷ codes "!=" ∷ codes ">=" ∷ codes "||" ∷ []

abbrev pub is_pair : ℕ → ℕ → Bool
is_pair b c = list_any (λ x. b == slice_index x 0 && c == slice_index x 1) pairs

-- no letter, digit or `_` stands behind
abbrev pub IsWordEnd : List ℕ → Type 0
IsWordEnd rest = is_word_byte (slice_index rest 0) ≡ false

-- the number that digits spell
abbrev pub decimal : List ℕ → ℕ
decimal = fold (λ n b. 10 * n + (b - 48)) 0

-- a quote twice, and any other byte once
abbrev pub doubled : ℕ → List ℕ
doubled b = if b == 39 then 39 ∷ 39 ∷ [] else b ∷ []

-- a quote, the text with each of its quotes twice, and a quote
abbrev pub in_quotes : List ℕ → List ℕ
in_quotes text = 39 ∷ (flat_map doubled text ++ 39 ∷ [])

-- two bytes that are a symbol, or one that is, and that is none with the next
abbrev pub IsSymbol : List ℕ → List ℕ → Type 0
IsSymbol s rest =
    ((length s ≡ 2) × (is_pair (slice_index s 0) (slice_index s 1) ≡ true))
    ⊎ ((length s ≡ 1) × (is_symbol (slice_index s 0) ≡ true) × (is_pair (slice_index s 0) (slice_index rest 0) ≡ false))

-- `--` or `/*` stands at the front
abbrev pub opens_comment : List ℕ → Bool
opens_comment z = (slice_index z 0 == 45 && slice_index z 1 == 45) || (slice_index z 0 == 47 && slice_index z 1 == 42)

-- The bytes, in front of the rest, are a token of the kind.
abbrev pub IsRead : TokenKind → List ℕ → List ℕ → Type 0
IsRead Word s rest = (is_word s ≡ true) × IsWordEnd rest
IsRead Number s rest = (list_all is_ascii_digit s ≡ true) × (decimal s < 2 ^ 63) × IsWordEnd rest
IsRead Quoted s rest = (t : List ℕ) × (s ≡ in_quotes t) × (slice_index rest 0 ≢ 39)
IsRead Symbol s rest = IsSymbol s rest × (opens_comment (s ++ rest) ≡ false)
IsRead Bad s rest = ⊥

-- from `--` to the end of the line, or of the text
pub record IsLineComment (s rest : List ℕ) : Type 0 where
  pub first : slice_index s 0 ≡ 45
  pub second : slice_index s 1 ≡ 45
  pub line : list_all (λ b. not (b == 10)) s ≡ true
  pub ended : (rest ≡ []) ⊎ (slice_index rest 0 ≡ 10)

-- `*/` stands somewhere in the text
abbrev pub has_close : List ℕ → Bool
has_close [] = false
has_close (b ∷ z) = (b == 42 && slice_index z 0 == 47) || has_close z

-- from `/*` to the first `*/` behind it
abbrev pub IsBlockComment : List ℕ → Type 0
IsBlockComment s = (body : List ℕ) × (s ≡ 47 ∷ 42 ∷ (body ++ 42 ∷ 47 ∷ [])) × (has_close (body ++ 42 ∷ []) ≡ false)

-- The bytes, in front of the rest, are blanks or a comment.
abbrev pub IsSkipped : List ℕ → List ℕ → Type 0
IsSkipped s rest = (list_all is_blank s ≡ true) ⊎ (IsLineComment s rest ⊎ IsBlockComment s)

-- No token and no blank or comment stands at the front of the text.
pub record IsUnread (z : List ℕ) : Type 0 where
  pub token : (kind : TokenKind) (s rest : List ℕ) → z ≡ s ++ rest → 0 < length s → ¬ (IsRead kind s rest)
  pub blank : (s rest : List ℕ) → z ≡ s ++ rest → 0 < length s → ¬ (IsSkipped s rest)

-- The text, from a place on, is cut into blanks, comments and tokens, one right behind the other,
-- and these are the tokens. Where none stands, a bad one is all that is left.
pub data IsCut : ℕ → List ℕ → List Token → Type 0 where
  nothing : (at : ℕ) → IsCut at [] []
  skips : (at : ℕ) (s rest : List ℕ) (ts : List Token) → 0 < length s → IsSkipped s rest → IsCut (at + length s) rest ts → IsCut at (s ++ rest) ts
  reads : (at : ℕ) (kind : TokenKind) (s rest : List ℕ) (ts : List Token) → 0 < length s → IsRead kind s rest → IsCut (at + length s) rest ts
      → IsCut at (s ++ rest) (record { kind = kind; from = at; to = at + length s } ∷ ts)
  fails : (at : ℕ) (s : List ℕ) → 0 < length s → IsUnread s → IsCut at s (record { kind = Bad; from = at; to = at + length s } ∷ [])
