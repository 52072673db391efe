-- The pieces of a spelled text, whatever stands behind it: the end, or what ends a token.
use Rattle.std.proofs.Common.{◌≡◌, ◌≢◌, ◌==◌, ℕ, ◌^◌, ◌<◌, nat_le, Bool, true, false, not, ◌&&◌, ◌||◌, List, [], ◌∷◌, ◌++◌, length, get_or, refl, sym, ◌∙◌, ap, subst, append_assoc, arith}
use Rattle.std.proofs.lemmas.Bool.{and_parts, ltb-true}
use Rattle.std.proofs.lemmas.Bool.Decides.{nat_tests}
use Rattle.std.proofs.lemmas.List.{append-nil}
use Rattle.std.specs.Char.{is_ascii_digit}
use Rattle.std.specs.Fmt.{decimal as digits}
use Rattle.std.specs.List.{list_all}
use Rattle.wat_word.specs.Words.{begins_word, is_word, is_word_byte, is_lower, is_name, is_reserved, spelling}
use Rattle.wat_word.proofs.Reserved.{spelled_words}
use Rattle.wat_lex.specs.declared.token.TokenKind.{TokenKind}
use Rattle.wat_lex.specs.declared.token.TokenKind.TheVariants as kind
use Rattle.wat_lex.specs.Tokens.{is_blank, is_pair, piece}
use Rattle.wat_lex.proofs.Fronts.{piece_of, word_piece, are_digits, digits_piece, quoted_piece, pair_piece, single_piece}
use Rattle.wat_spell.specs.declared.symbol.Symbol.{Symbol}
use Rattle.wat_spell.specs.declared.symbol.Symbol.TheVariants as s
use Rattle.wat_spell.specs.Tokens.{Token, word, name, number, negative, quoted, symbol, symbol_text, token_text, is_tight_left, is_tight_right, is_tight_before, is_tight_behind, gap, written}
use Rattle.wat_spell_laws.specs.Read.{can_stand}

-- what may stand right behind any token: the end, a space, `;`, or a symbol that is tight there
abbrev pub is_end : ℕ → Bool
is_end b = b == 0 || b == 32 || b == 40 || b == 41 || b == 44 || b == 46 || b == 59

end_of_word : (b : ℕ) → is_end b ≡ true → is_word_byte b ≡ false
end_of_word b e = grind (arith, nat_tests)

end_of_quote : (b : ℕ) → is_end b ≡ true → b ≢ 39
end_of_quote b e = λ q. apart (ap is_end (sym q) ∙ e)
  where
    apart : is_end 39 ≡ true → ⊥
    apart q = cc

-- ---- the kind and the bytes of each token

abbrev pub kind_at : Token → TokenKind
kind_at (word v) = kind.Word
kind_at (name n) = kind.Word
kind_at (number n) = kind.Number
kind_at (negative n) = kind.Number
kind_at (quoted t) = kind.Quoted
kind_at (symbol x) = kind.Symbol

-- what the text has of it last: of a number below zero its digits
abbrev pub last : Token → Token
last (word v) = word v
last (name n) = name n
last (number n) = number n
last (negative n) = number n
last (quoted t) = quoted t
last (symbol x) = symbol x

unfoldable pub IsCut : Token → List ℕ → Type 0
IsCut t rest = piece_of (kind_at t) (length (token_text (last t))) ≡ piece (token_text (last t) ++ rest)

no_pair : (b c : ℕ) → is_end c ≡ true → is_pair b c ≡ false
no_pair b c e = grind (arith, nat_tests)

no_dash : (b c : ℕ) → is_end c ≡ true → (b == 45 && c == 45) ≡ false
no_dash b c e = grind (arith, nat_tests)

no_star : (b c : ℕ) → is_end c ≡ true → (b == 47 && c == 42) ≡ false
no_star b c e = grind (arith, nat_tests)

no_pair_behind : (b c : ℕ) → (b == 60) ≡ false → (b == 33) ≡ false → (b == 62) ≡ false → (b == 124) ≡ false → is_pair b c ≡ false
no_pair_behind b c e f g h = grind (arith, nat_tests)

tight_symbol : (x : Symbol) (rest : List ℕ) → is_tight_right x ≡ true → IsCut (symbol x) rest
unfolding IsCut
tight_symbol s.Open rest e = single_piece 40 rest refl (no_pair_behind 40 (get_or rest 0 0) refl refl refl refl) refl refl
tight_symbol s.OpenTight rest e = single_piece 40 rest refl (no_pair_behind 40 (get_or rest 0 0) refl refl refl refl) refl refl
tight_symbol s.Dot rest e = single_piece 46 rest refl (no_pair_behind 46 (get_or rest 0 0) refl refl refl refl) refl refl
tight_symbol s.Close rest e = cc
tight_symbol s.Comma rest e = cc
tight_symbol s.Star rest e = cc
tight_symbol s.Plus rest e = cc
tight_symbol s.Minus rest e = cc
tight_symbol s.Slash rest e = cc
tight_symbol s.Concat rest e = cc
tight_symbol s.Equal rest e = cc
tight_symbol s.Unequal rest e = cc
tight_symbol s.Less rest e = cc
tight_symbol s.AtMost rest e = cc
tight_symbol s.Greater rest e = cc
tight_symbol s.AtLeast rest e = cc

any_symbol : (x : Symbol) (rest : List ℕ) → is_end (get_or rest 0 0) ≡ true → IsCut (symbol x) rest
unfolding IsCut
any_symbol s.Open rest e = single_piece 40 rest refl (no_pair 40 (get_or rest 0 0) e) (no_dash 40 (get_or rest 0 0) e) (no_star 40 (get_or rest 0 0) e)
any_symbol s.OpenTight rest e = single_piece 40 rest refl (no_pair 40 (get_or rest 0 0) e) (no_dash 40 (get_or rest 0 0) e) (no_star 40 (get_or rest 0 0) e)
any_symbol s.Close rest e = single_piece 41 rest refl (no_pair 41 (get_or rest 0 0) e) (no_dash 41 (get_or rest 0 0) e) (no_star 41 (get_or rest 0 0) e)
any_symbol s.Comma rest e = single_piece 44 rest refl (no_pair 44 (get_or rest 0 0) e) (no_dash 44 (get_or rest 0 0) e) (no_star 44 (get_or rest 0 0) e)
any_symbol s.Dot rest e = single_piece 46 rest refl (no_pair 46 (get_or rest 0 0) e) (no_dash 46 (get_or rest 0 0) e) (no_star 46 (get_or rest 0 0) e)
any_symbol s.Star rest e = single_piece 42 rest refl (no_pair 42 (get_or rest 0 0) e) (no_dash 42 (get_or rest 0 0) e) (no_star 42 (get_or rest 0 0) e)
any_symbol s.Plus rest e = single_piece 43 rest refl (no_pair 43 (get_or rest 0 0) e) (no_dash 43 (get_or rest 0 0) e) (no_star 43 (get_or rest 0 0) e)
any_symbol s.Minus rest e = single_piece 45 rest refl (no_pair 45 (get_or rest 0 0) e) (no_dash 45 (get_or rest 0 0) e) (no_star 45 (get_or rest 0 0) e)
any_symbol s.Slash rest e = single_piece 47 rest refl (no_pair 47 (get_or rest 0 0) e) (no_dash 47 (get_or rest 0 0) e) (no_star 47 (get_or rest 0 0) e)
any_symbol s.Concat rest e = pair_piece 124 124 rest refl refl refl
any_symbol s.Equal rest e = single_piece 61 rest refl (no_pair 61 (get_or rest 0 0) e) (no_dash 61 (get_or rest 0 0) e) (no_star 61 (get_or rest 0 0) e)
any_symbol s.Unequal rest e = pair_piece 60 62 rest refl refl refl
any_symbol s.Less rest e = single_piece 60 rest refl (no_pair 60 (get_or rest 0 0) e) (no_dash 60 (get_or rest 0 0) e) (no_star 60 (get_or rest 0 0) e)
any_symbol s.AtMost rest e = pair_piece 60 61 rest refl refl refl
any_symbol s.Greater rest e = single_piece 62 rest refl (no_pair 62 (get_or rest 0 0) e) (no_dash 62 (get_or rest 0 0) e) (no_star 62 (get_or rest 0 0) e)
any_symbol s.AtLeast rest e = pair_piece 62 61 rest refl refl refl

name_parts : (n : List ℕ) → is_name n ≡ true → (is_word n ≡ true) × (is_lower n ≡ true) × (not (is_reserved n) ≡ true)
name_parts n e =
    let h = and_parts (is_word n && is_lower n) (not (is_reserved n)) e in
    let g = and_parts (is_word n) (is_lower n) h.0 in
    (g.0, g.1, h.1)

-- each token is the piece at the front
cut_at : (t : Token) (rest : List ℕ) → can_stand t ≡ true → is_end (get_or rest 0 0) ≡ true → IsCut t rest
unfolding IsCut
cut_at (word v) rest c e = word_piece (spelling v) rest (spelled_words v) (end_of_word (get_or rest 0 0) e)
cut_at (name n) rest c e = word_piece n rest (name_parts n c).0 (end_of_word (get_or rest 0 0) e)
cut_at (number n) rest c e = digits_piece n rest (ltb-true n 9223372036854775808 c) (end_of_word (get_or rest 0 0) e)
cut_at (negative n) rest c e = digits_piece n rest (ltb-true n 9223372036854775808 c) (end_of_word (get_or rest 0 0) e)
cut_at (quoted t) rest c e = quoted_piece t rest (end_of_quote (get_or rest 0 0) e)
cut_at (symbol x) rest c e = any_symbol x rest e

tight_at : (t : Token) (rest : List ℕ) → is_tight_behind t ≡ true → IsCut t rest
tight_at (word v) rest e = cc
tight_at (name n) rest e = cc
tight_at (number n) rest e = cc
tight_at (negative n) rest e = cc
tight_at (quoted t) rest e = cc
tight_at (symbol x) rest e = tight_symbol x rest e

-- ---- the first byte

pub record IsBegun (t : Token) : Type 0 where
  pub some : 0 < length (token_text t)
  pub blank : is_blank (get_or (token_text t) 0 0) ≡ false

word_begun : (n : List ℕ) → is_word n ≡ true → (0 < length n) × (is_blank (get_or n 0 0) ≡ false)
word_begun [] e = cc
word_begun (b ∷ n) e =
    let h = and_parts (nat_le (length (b ∷ n)) 128 && begins_word b) (list_all is_word_byte (b ∷ n)) e in
    let g = and_parts (nat_le (length (b ∷ n)) 128) (begins_word b) h.0 in
    (omega arith, letter b g.1)
  where
    letter : (b : ℕ) → begins_word b ≡ true → is_blank b ≡ false
    letter b e = grind (arith, nat_tests)

digits_begun : (n : List ℕ) → 0 < length n → list_all is_ascii_digit n ≡ true → is_blank (get_or n 0 0) ≡ false
digits_begun [] h e = absurd (omega arith)
digits_begun (b ∷ n) h e = figure b (and_parts (is_ascii_digit b) (list_all is_ascii_digit n) e).0
  where
    figure : (b : ℕ) → is_ascii_digit b ≡ true → is_blank b ≡ false
    figure b e = grind (arith, nat_tests)

symbol_begun : (x : Symbol) → IsBegun (symbol x)
symbol_begun s.Open = record { some = omega arith; blank = refl }
symbol_begun s.OpenTight = record { some = omega arith; blank = refl }
symbol_begun s.Close = record { some = omega arith; blank = refl }
symbol_begun s.Comma = record { some = omega arith; blank = refl }
symbol_begun s.Dot = record { some = omega arith; blank = refl }
symbol_begun s.Star = record { some = omega arith; blank = refl }
symbol_begun s.Plus = record { some = omega arith; blank = refl }
symbol_begun s.Minus = record { some = omega arith; blank = refl }
symbol_begun s.Slash = record { some = omega arith; blank = refl }
symbol_begun s.Concat = record { some = omega arith; blank = refl }
symbol_begun s.Equal = record { some = omega arith; blank = refl }
symbol_begun s.Unequal = record { some = omega arith; blank = refl }
symbol_begun s.Less = record { some = omega arith; blank = refl }
symbol_begun s.AtMost = record { some = omega arith; blank = refl }
symbol_begun s.Greater = record { some = omega arith; blank = refl }
symbol_begun s.AtLeast = record { some = omega arith; blank = refl }

pub begun : (t : Token) → can_stand t ≡ true → IsBegun t
begun (word v) c = let h = word_begun (spelling v) (spelled_words v) in record { some = h.0; blank = h.1 }
begun (name n) c = let h = word_begun n (name_parts n c).0 in record { some = h.0; blank = h.1 }
begun (number n) c =
    let wide : n < 2 ^ 64 = omega (arith, ltb-true n 9223372036854775808 c) in
    let a = are_digits n wide in
    record { some = a.some; blank = digits_begun (digits n) a.some a.digit }
begun (negative n) c = record { some = omega arith; blank = refl }
begun (quoted t) c = record { some = omega arith; blank = refl }
begun (symbol x) c = symbol_begun x

tight_end : (x : Symbol) (rest : List ℕ) → is_tight_left x ≡ true → is_end (get_or (symbol_text x ++ rest) 0 0) ≡ true
tight_end s.Open rest e = cc
tight_end s.OpenTight rest e = refl
tight_end s.Close rest e = refl
tight_end s.Comma rest e = refl
tight_end s.Dot rest e = refl
tight_end s.Star rest e = cc
tight_end s.Plus rest e = cc
tight_end s.Minus rest e = cc
tight_end s.Slash rest e = cc
tight_end s.Concat rest e = cc
tight_end s.Equal rest e = cc
tight_end s.Unequal rest e = cc
tight_end s.Less rest e = cc
tight_end s.AtMost rest e = cc
tight_end s.Greater rest e = cc
tight_end s.AtLeast rest e = cc

ends_before : (t : Token) (rest : List ℕ) → is_tight_before t ≡ true → is_end (get_or (token_text t ++ rest) 0 0) ≡ true
ends_before (word v) rest e = cc
ends_before (name n) rest e = cc
ends_before (number n) rest e = cc
ends_before (negative n) rest e = cc
ends_before (quoted t) rest e = cc
ends_before (symbol x) rest e = tight_end x rest e

-- a minus right before a number
pub minus_cut : (n : ℕ) (rest : List ℕ) → n < 9223372036854775808 → piece_of kind.Symbol 1 ≡ piece (45 ∷ (digits n ++ rest))
minus_cut n rest h = single_piece 45 (digits n ++ rest) refl (no_pair_behind 45 (get_or (digits n ++ rest) 0 0) refl refl refl refl) (apart (get_or (digits n ++ rest) 0 0) digit) refl
  where
    first_digit : (z : List ℕ) → 0 < length z → list_all is_ascii_digit z ≡ true → is_ascii_digit (get_or (z ++ rest) 0 0) ≡ true
    first_digit [] some e = absurd (omega arith)
    first_digit (b ∷ z) some e = (and_parts (is_ascii_digit b) (list_all is_ascii_digit z) e).0

    digit : is_ascii_digit (get_or (digits n ++ rest) 0 0) ≡ true
    digit = let wide : n < 2 ^ 64 = omega arith in let a = are_digits n wide in first_digit (digits n) a.some a.digit

    apart : (b : ℕ) → is_ascii_digit b ≡ true → (45 == 45 && b == 45) ≡ false
    apart b e = grind (arith, nat_tests)

-- ---- tokens in a text

-- what stands behind the first token
abbrev pub behind : Token → List Token → List ℕ
behind t [] = []
behind t (u ∷ more) = gap (is_tight_behind t || is_tight_before u) ++ written (u ∷ more)

pub written_front : (t : Token) (more : List Token) → written (t ∷ more) ≡ token_text t ++ behind t more
written_front t [] = sym (append-nil (token_text t))
written_front t (u ∷ more) = append_assoc (token_text t) (gap (is_tight_behind t || is_tight_before u)) (written (u ∷ more))

first_same : (y z : List ℕ) → 0 < length y → get_or (y ++ z) 0 0 ≡ get_or y 0 0
first_same [] z h = absurd (omega arith)
first_same (x ∷ y) z h = refl

-- the first byte is no blank, whatever stands behind
pub first_blank : (t : Token) (more : List Token) (rest : List ℕ) → can_stand t ≡ true → is_blank (get_or (written (t ∷ more) ++ rest) 0 0) ≡ false
first_blank t more rest c =
    let b = begun t c in
    ap (λ (z : List ℕ). is_blank (get_or (z ++ rest) 0 0)) (written_front t more)
    ∙ ap (λ (z : List ℕ). is_blank (get_or z 0 0)) (append_assoc (token_text t) (behind t more) rest)
    ∙ ap is_blank (first_same (token_text t) (behind t more ++ rest) b.some) ∙ b.blank

first_ends : (t : Token) (more : List Token) (rest : List ℕ) → is_tight_before t ≡ true → is_end (get_or (written (t ∷ more) ++ rest) 0 0) ≡ true
first_ends t more rest e =
    ap (λ (z : List ℕ). is_end (get_or (z ++ rest) 0 0)) (written_front t more)
    ∙ ap (λ (z : List ℕ). is_end (get_or z 0 0)) (append_assoc (token_text t) (behind t more) rest)
    ∙ ends_before t (behind t more ++ rest) e

-- each token of a spelled text is a piece, whatever stands behind the text
pub cut_here : (t : Token) (more : List Token) (rest : List ℕ) → can_stand t ≡ true → is_end (get_or rest 0 0) ≡ true → IsCut t (behind t more ++ rest)
cut_here t [] rest c e = cut_at t rest c e
cut_here t (u ∷ more) rest c e = decide (is_tight_behind t) (is_tight_before u) refl refl
  where
    decide : (x y : Bool) → is_tight_behind t ≡ x → is_tight_before u ≡ y → IsCut t ((gap (is_tight_behind t || is_tight_before u) ++ written (u ∷ more)) ++ rest)
    decide true y f g = tight_at t _ f
    decide false true f g =
        let h : (is_tight_behind t || is_tight_before u) ≡ true = ap (λ x. x || is_tight_before u) f ∙ g in
        subst (λ (v : Bool). IsCut t ((gap v ++ written (u ∷ more)) ++ rest)) (sym h) (cut_at t (written (u ∷ more) ++ rest) c (first_ends u more rest g))
    decide false false f g =
        let h : (is_tight_behind t || is_tight_before u) ≡ false = ap (λ x. x || is_tight_before u) f ∙ g in
        subst (λ (v : Bool). IsCut t ((gap v ++ written (u ∷ more)) ++ rest)) (sym h) (cut_at t (32 ∷ (written (u ∷ more) ++ rest)) c refl)

-- no symbol of a spelling is `;`
pub symbol_apart : (x : Symbol) (rest : List ℕ) → (get_or (symbol_text x ++ rest) 0 0 == 59) ≡ false
symbol_apart s.Open rest = refl
symbol_apart s.OpenTight rest = refl
symbol_apart s.Close rest = refl
symbol_apart s.Comma rest = refl
symbol_apart s.Dot rest = refl
symbol_apart s.Star rest = refl
symbol_apart s.Plus rest = refl
symbol_apart s.Minus rest = refl
symbol_apart s.Slash rest = refl
symbol_apart s.Concat rest = refl
symbol_apart s.Equal rest = refl
symbol_apart s.Unequal rest = refl
symbol_apart s.Less rest = refl
symbol_apart s.AtMost rest = refl
symbol_apart s.Greater rest = refl
symbol_apart s.AtLeast rest = refl
