-- The tokens of a text.
use Rattle.std.specs.Prelude.{ℕ, zero, suc, ◌+◌, ◌-◌, ◌*◌, min, Bool, true, false, not, ◌&&◌, ◌||◌, if◌then◌else◌, ◌==◌, nat_le, nat_lt, List, [], ◌∷◌, ◌++◌, length, take, drop, slice_index, Option, Some, None}
use Rattle.std.specs.Char.{is_ascii_digit}
use Rattle.std.specs.List.{fold, prefix_len}
use Rattle.wat_word.specs.Words.{is_word_byte}
use Rattle.wat_lex.specs.declared.token.TokenKind.{TokenKind}
use Rattle.wat_lex.specs.declared.token.TokenKind.TheVariants.{Word, Number, Quoted, Symbol, Bad}
use Rattle.wat_lex.specs.declared.token.Token.{Token}

-- space, tab, carriage return, line feed
abbrev pub is_blank : ℕ → Bool
is_blank b = b == 32 || b == 9 || b == 13 || b == 10

abbrev pub is_no_line_feed : ℕ → Bool
is_no_line_feed b = not (b == 10)

-- What stands at the front of a text, and how many bytes it takes: a token of a kind, or None
-- for blanks and for a comment.
abbrev pub Piece : Type 0
Piece = Option TokenKind × ℕ

-- where the rules have no token: the rest of the text
abbrev pub bad : List ℕ → Piece
bad z = (Some Bad, length z)

-- a piece that ends at a place, or a bad one where it does not end
abbrev pub ended : Option TokenKind → List ℕ → Option ℕ → Piece
ended kind z None = bad z
ended kind z (Some end) = (kind, end)

-- letters, digits and `_`, at most 128
abbrev pub word : List ℕ → Piece
word z = let n = prefix_len is_word_byte z in if nat_le n 128 then (Some Word, n) else bad z

-- the number that the digits spell, or 2 ^ 63 where it is above
abbrev pub value_of : List ℕ → ℕ
value_of = fold (λ n b. min (10 * n + (b - 48)) 9223372036854775808) 0

-- digits, of a value of at most 2 ^ 63 - 1; a letter or `_` right behind them spoils them
abbrev pub number : List ℕ → Piece
number z =
    let n = prefix_len is_ascii_digit z in
    if nat_lt (value_of (take n z)) 9223372036854775808 && not (is_word_byte (slice_index z n)) then (Some Number, n) else bad z

-- The place behind the closing quote, for a text that begins at `at`. A doubled quote does not close.
abbrev pub closing : Bool → ℕ → List ℕ → Option ℕ
closing is_second at [] = None
closing true at (b ∷ z) = closing false (at + 1) z
closing false at (b ∷ z) = if b == 39 && not (slice_index z 0 == 39) then Some (at + 1) else closing (b == 39) (at + 1) z

abbrev pub quoted : List ℕ → Piece
quoted z = ended (Some Quoted) z (closing false 1 (drop 1 z))

-- the place behind the first `*/`, for a text that begins at `at`
abbrev pub comment_end : ℕ → List ℕ → Option ℕ
comment_end at [] = None
comment_end at (b ∷ z) = if b == 42 && slice_index z 0 == 47 then Some (at + 2) else comment_end (at + 1) z

-- what opens a comment does not close it too
abbrev pub comment : List ℕ → Piece
comment z = ended None z (comment_end 2 (drop 2 z))

-- the symbols `<>`, `<=`, `!=`, `>=` and `||`
abbrev pub is_pair : ℕ → ℕ → Bool
is_pair b next = (next == 62 && b == 60) || (next == 61 && (b == 60 || b == 33 || b == 62)) || (next == 124 && b == 124)

-- the symbols `( ) , ; . * + - / = < >`
abbrev pub is_single : ℕ → Bool
is_single b = b == 40 || b == 41 || b == 44 || b == 59 || b == 46 || b == 42 || b == 43 || b == 45 || b == 47 || b == 61 || b == 60 || b == 62

-- the length of the longest symbol that begins with these two bytes, or 0
abbrev pub symbol_len : ℕ → ℕ → ℕ
symbol_len b next = if is_pair b next then 2 else (if is_single b then 1 else 0)

abbrev pub symbol : List ℕ → Piece
symbol z = let n = symbol_len (slice_index z 0) (slice_index z 1) in if n == 0 then bad z else (Some Symbol, n)

-- the piece at the front
unfoldable pub piece : List ℕ → Piece
piece z =
    let b = slice_index z 0 in
    let next = slice_index z 1 in
    if is_blank b then (None, prefix_len is_blank z)
    else (if b == 45 && next == 45 then (None, prefix_len is_no_line_feed z)
    else (if b == 47 && next == 42 then comment z
    else (if b == 39 then quoted z
    else (if is_ascii_digit b then number z
    else (if is_word_byte b then word z else symbol z)))))

-- the token of a piece at a place, if it is one
abbrev pub token_at : ℕ → Option TokenKind → ℕ → List Token
token_at at None n = []
token_at at (Some k) n = record { kind = k; from = at; to = at + n } ∷ []

-- The tokens from the place `at` on. The first number counts the bytes that are left of a piece.
abbrev pub tokens_from : ℕ → ℕ → List ℕ → List Token
tokens_from left at [] = []
tokens_from (suc left) at (b ∷ z) = tokens_from left (at + 1) z
tokens_from zero at (b ∷ z) = let p = piece (b ∷ z) in token_at at p.0 p.1 ++ tokens_from (p.1 - 1) (at + 1) z

unfoldable pub tokens_of : List ℕ → List Token
tokens_of = tokens_from 0 0
