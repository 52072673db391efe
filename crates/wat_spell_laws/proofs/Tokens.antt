-- The tokens of a spelled text are those that spell it.
use Rattle.std.proofs.Common.{◌≡◌, ◌≢◌, ◌==◌, ℕ, ◌+◌, ◌-◌, ◌^◌, ◌<◌, nat_le, nat_lt, Bool, true, false, not, ◌&&◌, ◌||◌, cond, List, [], ◌∷◌, ◌++◌, length, take, drop, get_or, Option, Some, None, is_some, refl, sym, ◌∙◌, ap, subst, append_assoc, arith}
use Rattle.std.proofs.lemmas.Bool.{and_parts, ltb-true}
use Rattle.std.proofs.lemmas.Bool.Decides.{nat_tests}
use Rattle.std.proofs.lemmas.List.{append-nil}
use Rattle.std.proofs.lemmas.List.Prefix.{front_rest}
use Rattle.std.proofs.Math.Seq.{take-append_seam}
use Rattle.std.specs.Char.{is_ascii_digit, is_ascii_uppercase, to_ascii_lowercase}
use Rattle.std.specs.Fmt.{decimal as digits}
use Rattle.std.specs.List.{list_all, flat_map}
use Rattle.wat_word.specs.declared.keyword.Keyword.{Keyword}
use Rattle.wat_word.specs.declared.keyword.Keyword.TheVariants as w
use Rattle.wat_word.specs.Words.{begins_word, is_word, is_word_byte, is_lower, is_name, is_reserved, keyword, spelling}
use Rattle.wat_word.proofs.Reserved.{spelled_words, read_back as spelled_read}
use Rattle.wat_lex.specs.declared.token.TokenKind.{TokenKind}
use Rattle.wat_lex.specs.declared.token.TokenKind.TheVariants as kind
use Rattle.wat_lex.specs.declared.token.Token.{Token as Place}
use Rattle.wat_lex.specs.Tokens.{is_blank, is_pair, piece, tokens_from, tokens_of}
use Rattle.wat_lex.specs.Rules.{doubled}
use Rattle.wat_lex.proofs.Fronts.{piece_of, piece_space, word_piece, are_digits, digits_piece, quoted_piece, pair_piece, single_piece}
use Rattle.wat_lex.specs.Values.{lower_case, number_value, unquoted, string_text}
use Rattle.wat_lex.proofs.Pieces.{tokens_from-step}
use Rattle.wat_syntax.specs.declared.kind.Kind.TheVariants as k
use Rattle.wat_syntax.specs.Lexeme.{Lexeme, kind_of_word, word_kind, kind_of, lexeme, lexeme_of, lexemes_of}
use Rattle.wat_spell.specs.declared.symbol.Symbol.{Symbol}
use Rattle.wat_spell.specs.declared.symbol.Symbol.TheVariants as s
use Rattle.wat_spell.specs.Tokens.{Token, word, name, number, negative, quoted, symbol, symbol_text, token_text, is_tight_left, is_tight_right, is_tight_before, is_tight_behind, gap, written}
use Rattle.wat_spell_laws.specs.Derived.{sign, kind_of_symbol, name_lexeme, number_lexeme, quoted_lexeme, lexemes_of_token, token_lexemes}
use Rattle.wat_spell_laws.specs.Read.{can_stand, IsReadBack}

-- what may stand right behind any token: the end, a space, or a symbol that is tight there
abbrev is_end : ℕ → Bool
is_end b = b == 0 || b == 32 || b == 40 || b == 41 || b == 44 || b == 46

end_of_word : (b : ℕ) → is_end b ≡ true → is_word_byte b ≡ false
end_of_word b e = grind (arith, nat_tests)

end_of_quote : (b : ℕ) → is_end b ≡ true → b ≢ 39
end_of_quote b e = λ q. apart (ap is_end (sym q) ∙ e)
  where
    apart : is_end 39 ≡ true → ⊥
    apart q = cc

-- ---- the kind and the bytes of each token

abbrev kind_at : Token → TokenKind
kind_at (word v) = kind.Word
kind_at (name n) = kind.Word
kind_at (number n) = kind.Number
kind_at (negative n) = kind.Number
kind_at (quoted t) = kind.Quoted
kind_at (symbol x) = kind.Symbol

-- what the text has of it last: of a number below zero its digits
abbrev last : Token → Token
last (word v) = word v
last (name n) = name n
last (number n) = number n
last (negative n) = number n
last (quoted t) = quoted t
last (symbol x) = symbol x

IsCut : Token → List ℕ → Type 0
IsCut t rest = piece_of (kind_at t) (length (token_text (last t))) ≡ piece (token_text (last t) ++ rest)

no_pair : (b c : ℕ) → is_end c ≡ true → is_pair b c ≡ false
no_pair b c e = grind (arith, nat_tests)

no_dash : (b c : ℕ) → is_end c ≡ true → (b == 45 && c == 45) ≡ false
no_dash b c e = grind (arith, nat_tests)

no_star : (b c : ℕ) → is_end c ≡ true → (b == 47 && c == 42) ≡ false
no_star b c e = grind (arith, nat_tests)

no_pair_behind : (b c : ℕ) → (b == 60) ≡ false → (b == 33) ≡ false → (b == 62) ≡ false → (b == 124) ≡ false → is_pair b c ≡ false
no_pair_behind b c e f g h = grind (arith, nat_tests)

tight_symbol : (x : Symbol) (rest : List ℕ) → is_tight_right x ≡ true → IsCut (symbol x) rest
unfolding IsCut
tight_symbol s.Open rest e = single_piece 40 rest refl (no_pair_behind 40 (get_or rest 0 0) refl refl refl refl) refl refl
tight_symbol s.OpenTight rest e = single_piece 40 rest refl (no_pair_behind 40 (get_or rest 0 0) refl refl refl refl) refl refl
tight_symbol s.Dot rest e = single_piece 46 rest refl (no_pair_behind 46 (get_or rest 0 0) refl refl refl refl) refl refl
tight_symbol s.Close rest e = cc
tight_symbol s.Comma rest e = cc
tight_symbol s.Star rest e = cc
tight_symbol s.Plus rest e = cc
tight_symbol s.Minus rest e = cc
tight_symbol s.Slash rest e = cc
tight_symbol s.Concat rest e = cc
tight_symbol s.Equal rest e = cc
tight_symbol s.Unequal rest e = cc
tight_symbol s.Less rest e = cc
tight_symbol s.AtMost rest e = cc
tight_symbol s.Greater rest e = cc
tight_symbol s.AtLeast rest e = cc

any_symbol : (x : Symbol) (rest : List ℕ) → is_end (get_or rest 0 0) ≡ true → IsCut (symbol x) rest
unfolding IsCut
any_symbol s.Open rest e = single_piece 40 rest refl (no_pair 40 (get_or rest 0 0) e) (no_dash 40 (get_or rest 0 0) e) (no_star 40 (get_or rest 0 0) e)
any_symbol s.OpenTight rest e = single_piece 40 rest refl (no_pair 40 (get_or rest 0 0) e) (no_dash 40 (get_or rest 0 0) e) (no_star 40 (get_or rest 0 0) e)
any_symbol s.Close rest e = single_piece 41 rest refl (no_pair 41 (get_or rest 0 0) e) (no_dash 41 (get_or rest 0 0) e) (no_star 41 (get_or rest 0 0) e)
any_symbol s.Comma rest e = single_piece 44 rest refl (no_pair 44 (get_or rest 0 0) e) (no_dash 44 (get_or rest 0 0) e) (no_star 44 (get_or rest 0 0) e)
any_symbol s.Dot rest e = single_piece 46 rest refl (no_pair 46 (get_or rest 0 0) e) (no_dash 46 (get_or rest 0 0) e) (no_star 46 (get_or rest 0 0) e)
any_symbol s.Star rest e = single_piece 42 rest refl (no_pair 42 (get_or rest 0 0) e) (no_dash 42 (get_or rest 0 0) e) (no_star 42 (get_or rest 0 0) e)
any_symbol s.Plus rest e = single_piece 43 rest refl (no_pair 43 (get_or rest 0 0) e) (no_dash 43 (get_or rest 0 0) e) (no_star 43 (get_or rest 0 0) e)
any_symbol s.Minus rest e = single_piece 45 rest refl (no_pair 45 (get_or rest 0 0) e) (no_dash 45 (get_or rest 0 0) e) (no_star 45 (get_or rest 0 0) e)
any_symbol s.Slash rest e = single_piece 47 rest refl (no_pair 47 (get_or rest 0 0) e) (no_dash 47 (get_or rest 0 0) e) (no_star 47 (get_or rest 0 0) e)
any_symbol s.Concat rest e = pair_piece 124 124 rest refl refl refl
any_symbol s.Equal rest e = single_piece 61 rest refl (no_pair 61 (get_or rest 0 0) e) (no_dash 61 (get_or rest 0 0) e) (no_star 61 (get_or rest 0 0) e)
any_symbol s.Unequal rest e = pair_piece 60 62 rest refl refl refl
any_symbol s.Less rest e = single_piece 60 rest refl (no_pair 60 (get_or rest 0 0) e) (no_dash 60 (get_or rest 0 0) e) (no_star 60 (get_or rest 0 0) e)
any_symbol s.AtMost rest e = pair_piece 60 61 rest refl refl refl
any_symbol s.Greater rest e = single_piece 62 rest refl (no_pair 62 (get_or rest 0 0) e) (no_dash 62 (get_or rest 0 0) e) (no_star 62 (get_or rest 0 0) e)
any_symbol s.AtLeast rest e = pair_piece 62 61 rest refl refl refl

name_parts : (n : List ℕ) → is_name n ≡ true → (is_word n ≡ true) × (is_lower n ≡ true) × (not (is_reserved n) ≡ true)
name_parts n e =
    let h = and_parts (is_word n && is_lower n) (not (is_reserved n)) e in
    let g = and_parts (is_word n) (is_lower n) h.0 in
    (g.0, g.1, h.1)

-- each token is the piece at the front
cut_at : (t : Token) (rest : List ℕ) → can_stand t ≡ true → is_end (get_or rest 0 0) ≡ true → IsCut t rest
unfolding IsCut
cut_at (word v) rest c e = word_piece (spelling v) rest (spelled_words v) (end_of_word (get_or rest 0 0) e)
cut_at (name n) rest c e = word_piece n rest (name_parts n c).0 (end_of_word (get_or rest 0 0) e)
cut_at (number n) rest c e = digits_piece n rest (ltb-true n 9223372036854775808 c) (end_of_word (get_or rest 0 0) e)
cut_at (negative n) rest c e = digits_piece n rest (ltb-true n 9223372036854775808 c) (end_of_word (get_or rest 0 0) e)
cut_at (quoted t) rest c e = quoted_piece t rest (end_of_quote (get_or rest 0 0) e)
cut_at (symbol x) rest c e = any_symbol x rest e

tight_at : (t : Token) (rest : List ℕ) → is_tight_behind t ≡ true → IsCut t rest
tight_at (word v) rest e = cc
tight_at (name n) rest e = cc
tight_at (number n) rest e = cc
tight_at (negative n) rest e = cc
tight_at (quoted t) rest e = cc
tight_at (symbol x) rest e = tight_symbol x rest e

-- ---- the first byte

record IsBegun (t : Token) : Type 0 where
  pub some : 0 < length (token_text t)
  pub blank : is_blank (get_or (token_text t) 0 0) ≡ false

word_begun : (n : List ℕ) → is_word n ≡ true → (0 < length n) × (is_blank (get_or n 0 0) ≡ false)
word_begun [] e = cc
word_begun (b ∷ n) e =
    let h = and_parts (nat_le (length (b ∷ n)) 128 && begins_word b) (list_all is_word_byte (b ∷ n)) e in
    let g = and_parts (nat_le (length (b ∷ n)) 128) (begins_word b) h.0 in
    (omega arith, letter b g.1)
  where
    letter : (b : ℕ) → begins_word b ≡ true → is_blank b ≡ false
    letter b e = grind (arith, nat_tests)

digits_begun : (n : List ℕ) → 0 < length n → list_all is_ascii_digit n ≡ true → is_blank (get_or n 0 0) ≡ false
digits_begun [] h e = absurd (omega arith)
digits_begun (b ∷ n) h e = figure b (and_parts (is_ascii_digit b) (list_all is_ascii_digit n) e).0
  where
    figure : (b : ℕ) → is_ascii_digit b ≡ true → is_blank b ≡ false
    figure b e = grind (arith, nat_tests)

symbol_begun : (x : Symbol) → IsBegun (symbol x)
symbol_begun s.Open = record { some = omega arith; blank = refl }
symbol_begun s.OpenTight = record { some = omega arith; blank = refl }
symbol_begun s.Close = record { some = omega arith; blank = refl }
symbol_begun s.Comma = record { some = omega arith; blank = refl }
symbol_begun s.Dot = record { some = omega arith; blank = refl }
symbol_begun s.Star = record { some = omega arith; blank = refl }
symbol_begun s.Plus = record { some = omega arith; blank = refl }
symbol_begun s.Minus = record { some = omega arith; blank = refl }
symbol_begun s.Slash = record { some = omega arith; blank = refl }
symbol_begun s.Concat = record { some = omega arith; blank = refl }
symbol_begun s.Equal = record { some = omega arith; blank = refl }
symbol_begun s.Unequal = record { some = omega arith; blank = refl }
symbol_begun s.Less = record { some = omega arith; blank = refl }
symbol_begun s.AtMost = record { some = omega arith; blank = refl }
symbol_begun s.Greater = record { some = omega arith; blank = refl }
symbol_begun s.AtLeast = record { some = omega arith; blank = refl }

begun : (t : Token) → can_stand t ≡ true → IsBegun t
begun (word v) c = let h = word_begun (spelling v) (spelled_words v) in record { some = h.0; blank = h.1 }
begun (name n) c = let h = word_begun n (name_parts n c).0 in record { some = h.0; blank = h.1 }
begun (number n) c =
    let wide : n < 2 ^ 64 = omega (arith, ltb-true n 9223372036854775808 c) in
    let a = are_digits n wide in
    record { some = a.some; blank = digits_begun (digits n) a.some a.digit }
begun (negative n) c = record { some = omega arith; blank = refl }
begun (quoted t) c = record { some = omega arith; blank = refl }
begun (symbol x) c = symbol_begun x

tight_end : (x : Symbol) (rest : List ℕ) → is_tight_left x ≡ true → is_end (get_or (symbol_text x ++ rest) 0 0) ≡ true
tight_end s.Open rest e = cc
tight_end s.OpenTight rest e = refl
tight_end s.Close rest e = refl
tight_end s.Comma rest e = refl
tight_end s.Dot rest e = refl
tight_end s.Star rest e = cc
tight_end s.Plus rest e = cc
tight_end s.Minus rest e = cc
tight_end s.Slash rest e = cc
tight_end s.Concat rest e = cc
tight_end s.Equal rest e = cc
tight_end s.Unequal rest e = cc
tight_end s.Less rest e = cc
tight_end s.AtMost rest e = cc
tight_end s.Greater rest e = cc
tight_end s.AtLeast rest e = cc

ends_before : (t : Token) (rest : List ℕ) → is_tight_before t ≡ true → is_end (get_or (token_text t ++ rest) 0 0) ≡ true
ends_before (word v) rest e = cc
ends_before (name n) rest e = cc
ends_before (number n) rest e = cc
ends_before (negative n) rest e = cc
ends_before (quoted t) rest e = cc
ends_before (symbol x) rest e = tight_end x rest e

-- ---- what each token gives

word_sign : (v : Keyword) (b : List ℕ) → lexeme (kind_of_word v) b ≡ sign (kind_of_word v)
word_sign w.And b = refl
word_sign w.As b = refl
word_sign w.Asc b = refl
word_sign w.Between b = refl
word_sign w.Blocking b = refl
word_sign w.By b = refl
word_sign w.Char b = refl
word_sign w.Checkpoint b = refl
word_sign w.Commit b = refl
word_sign w.Count b = refl
word_sign w.Create b = refl
word_sign w.Delete b = refl
word_sign w.Desc b = refl
word_sign w.Distinct b = refl
word_sign w.Drop b = refl
word_sign w.Foreign b = refl
word_sign w.From b = refl
word_sign w.Group b = refl
word_sign w.Having b = refl
word_sign w.In b = refl
word_sign w.Index b = refl
word_sign w.Insert b = refl
word_sign w.Int b = refl
word_sign w.Integer b = refl
word_sign w.Into b = refl
word_sign w.Is b = refl
word_sign w.IsolationLevel b = refl
word_sign w.Key b = refl
word_sign w.Max b = refl
word_sign w.Min b = refl
word_sign w.Not b = refl
word_sign w.Null b = refl
word_sign w.Numeric b = refl
word_sign w.Off b = refl
word_sign w.On b = refl
word_sign w.Option b = refl
word_sign w.Or b = refl
word_sign w.Order b = refl
word_sign w.Primary b = refl
word_sign w.References b = refl
word_sign w.Release b = refl
word_sign w.Restrict b = refl
word_sign w.Rollback b = refl
word_sign w.Savepoint b = refl
word_sign w.Select b = refl
word_sign w.Set b = refl
word_sign w.Sum b = refl
word_sign w.Table b = refl
word_sign w.Temporary b = refl
word_sign w.To b = refl
word_sign w.Update b = refl
word_sign w.Values b = refl
word_sign w.Varchar b = refl
word_sign w.Where b = refl
word_sign w.Work b = refl

symbol_sign : (x : Symbol) → lexeme (kind_of kind.Symbol (symbol_text x)) (symbol_text x) ≡ sign (kind_of_symbol x)
symbol_sign s.Open = refl
symbol_sign s.OpenTight = refl
symbol_sign s.Close = refl
symbol_sign s.Comma = refl
symbol_sign s.Dot = refl
symbol_sign s.Star = refl
symbol_sign s.Plus = refl
symbol_sign s.Minus = refl
symbol_sign s.Slash = refl
symbol_sign s.Concat = refl
symbol_sign s.Equal = refl
symbol_sign s.Unequal = refl
symbol_sign s.Less = refl
symbol_sign s.AtMost = refl
symbol_sign s.Greater = refl
symbol_sign s.AtLeast = refl

lower_byte : (b : ℕ) → not (is_ascii_uppercase b) ≡ true → to_ascii_lowercase b ≡ b
lower_byte b e = grind (arith, nat_tests)

lower_same : (n : List ℕ) → is_lower n ≡ true → lower_case n ≡ n
lower_same [] e = refl
lower_same (b ∷ n) e =
    let h = and_parts (not (is_ascii_uppercase b)) (is_lower n) e in
    ap (λ (c : ℕ). c ∷ lower_case n) (lower_byte b h.0) ∙ ap (λ (m : List ℕ). b ∷ m) (lower_same n h.1)

not_some : (o : Option Keyword) → not (is_some o) ≡ true → o ≡ None
not_some None e = refl
not_some (Some v) e = cc

name_read : (n : List ℕ) → is_name n ≡ true → lexeme (kind_of kind.Word n) n ≡ name_lexeme n
name_read n e =
    let h = name_parts n e in
    ap (λ (o : Option Keyword). lexeme (word_kind o) n) (not_some (keyword n) h.2) ∙ ap name_lexeme (lower_same n h.1)

doubled_read : (b : ℕ) (z : List ℕ) (t : Bool) → (b == 39) ≡ t → unquoted false (doubled b ++ z) ≡ b ∷ unquoted false z
doubled_read b z true p = ap (λ v. unquoted false (cond v (39 ∷ 39 ∷ []) (b ∷ []) ++ z)) p ∙ ap (λ (c : ℕ). c ∷ unquoted false z) (same b p)
  where
    same : (b : ℕ) → (b == 39) ≡ true → 39 ≡ b
    same b p = grind (arith, nat_tests)
doubled_read b z false p = ap (λ v. unquoted false (cond v (39 ∷ 39 ∷ []) (b ∷ []) ++ z)) p ∙ ap (λ v. cond (v && true) (unquoted true z) (b ∷ unquoted false z)) p

text_read : (t : List ℕ) → unquoted false (flat_map doubled t ++ 39 ∷ []) ≡ t
text_read [] = refl
text_read (b ∷ t) =
    ap (unquoted false) (append_assoc (doubled b) (flat_map doubled t) (39 ∷ []))
    ∙ doubled_read b (flat_map doubled t ++ 39 ∷ []) (b == 39) refl ∙ ap (λ (u : List ℕ). b ∷ u) (text_read t)

quoted_read : (t : List ℕ) → lexeme k.Quoted (39 ∷ (flat_map doubled t ++ 39 ∷ [])) ≡ quoted_lexeme t
unfolding string_text
quoted_read t = ap quoted_lexeme (text_read t)

abbrev number_of : Option ℕ → Lexeme
number_of n = record { kind = k.Number; text = []; number = n }

number_read : (n : ℕ) → nat_lt n 9223372036854775808 ≡ true → lexeme k.Number (digits n) ≡ number_of (Some n)
unfolding number_value
number_read n c =
    let wide : n < 2 ^ 64 = omega (arith, ltb-true n 9223372036854775808 c) in
    let a = are_digits n wide in
    ap (λ (v : ℕ). number_of (cond (nat_lt v 9223372036854775808) (Some v) None)) a.value ∙ ap (λ t. number_of (cond t (Some n) None)) c

-- whether it is one token of the text too
abbrev is_one : Token → Bool
is_one (word v) = true
is_one (name n) = true
is_one (number n) = true
is_one (negative n) = false
is_one (quoted t) = true
is_one (symbol x) = true

gives : (t : Token) → is_one t ≡ true → can_stand t ≡ true → lexeme (kind_of (kind_at t) (token_text t)) (token_text t) ∷ [] ≡ lexemes_of_token t
gives (word v) o c = ap (λ (x : Lexeme). x ∷ []) (ap (λ (o : Option Keyword). lexeme (word_kind o) (spelling v)) (spelled_read v) ∙ word_sign v (spelling v))
gives (name n) o c = ap (λ (x : Lexeme). x ∷ []) (name_read n c)
gives (number n) o c = ap (λ (x : Lexeme). x ∷ []) (number_read n c)
gives (negative n) o c = cc
gives (quoted t) o c = ap (λ (x : Lexeme). x ∷ []) (quoted_read t)
gives (symbol x) o c = ap (λ (x : Lexeme). x ∷ []) (symbol_sign x)

-- ---- one token, and those behind it

abbrev place : TokenKind → ℕ → ℕ → Place
place kind at n = record { kind = kind; from = at; to = at + n }

bytes_there : (p z rest : List ℕ) (n : ℕ) → n ≡ length z → take (length p + n - length p) (drop (length p) (p ++ (z ++ rest))) ≡ z
bytes_there p z rest n e =
    let m : length p + n - length p ≡ length z = omega (arith, e) in
    ap (λ (j : ℕ). take j (drop (length p) (p ++ (z ++ rest)))) m
    ∙ ap (take (length z)) (front_rest (p ++ (z ++ rest)) p (z ++ rest) refl)
    ∙ take-append_seam z rest

longer : (y y' : List ℕ) → length (y ++ y') ≡ length y + length y'
longer [] y' = omega arith
longer (x ∷ y) y' = omega (arith, longer y y')

-- one token of the text
front : (t : Token) (rest p whole : List ℕ) → is_one t ≡ true → can_stand t ≡ true → piece_of (kind_at t) (length (token_text t)) ≡ piece (token_text t ++ rest) → whole ≡ p ++ (token_text t ++ rest)
    → lexemes_of whole (tokens_from 0 (length p) (token_text t ++ rest)) ≡ lexemes_of_token t ++ lexemes_of whole (tokens_from 0 (length p + length (token_text t)) rest)
front t rest p whole o c h e =
    let z = token_text t in
    let some : 0 < length z = (begun t c).some in
    let all : 0 < length (z ++ rest) = omega (arith, longer z rest) in
    ap (lexemes_of whole) (tokens_from-step (z ++ rest) (length p) (piece_of (kind_at t) (length z)) all h some)
    ∙ ap (λ (y : List ℕ). lexeme_of whole (place (kind_at t) (length p) (length z)) ∷ lexemes_of whole (tokens_from 0 (length p + length z) y)) (front_rest (z ++ rest) z rest refl)
    ∙ ap (λ (y : List ℕ). lexeme (kind_of (kind_at t) y) y ∷ lexemes_of whole (tokens_from 0 (length p + length z) rest))
    (ap (λ (y : List ℕ). take (length p + length z - length p) (drop (length p) y)) e ∙ bytes_there p z rest (length z) refl)
    ∙ ap (λ (xs : List Lexeme). xs ++ lexemes_of whole (tokens_from 0 (length p + length z) rest)) (gives t o c)

-- a minus right before a number
minus_cut : (n : ℕ) (rest : List ℕ) → n < 9223372036854775808 → piece_of kind.Symbol 1 ≡ piece (45 ∷ (digits n ++ rest))
minus_cut n rest h = single_piece 45 (digits n ++ rest) refl (no_pair_behind 45 (get_or (digits n ++ rest) 0 0) refl refl refl refl) (apart (get_or (digits n ++ rest) 0 0) digit) refl
  where
    first_digit : (z : List ℕ) → 0 < length z → list_all is_ascii_digit z ≡ true → is_ascii_digit (get_or (z ++ rest) 0 0) ≡ true
    first_digit [] some e = absurd (omega arith)
    first_digit (b ∷ z) some e = (and_parts (is_ascii_digit b) (list_all is_ascii_digit z) e).0

    digit : is_ascii_digit (get_or (digits n ++ rest) 0 0) ≡ true
    digit = let wide : n < 2 ^ 64 = omega arith in let a = are_digits n wide in first_digit (digits n) a.some a.digit

    apart : (b : ℕ) → is_ascii_digit b ≡ true → (45 == 45 && b == 45) ≡ false
    apart b e = grind (arith, nat_tests)

-- the token at the front, and those behind it
front_any : (t : Token) (rest p whole : List ℕ) → can_stand t ≡ true → IsCut t rest → whole ≡ p ++ (token_text t ++ rest)
    → lexemes_of whole (tokens_from 0 (length p) (token_text t ++ rest)) ≡ lexemes_of_token t ++ lexemes_of whole (tokens_from 0 (length p + length (token_text t)) rest)
unfolding IsCut
front_any (word v) rest p whole c h e = front (word v) rest p whole refl c h e
front_any (name n) rest p whole c h e = front (name n) rest p whole refl c h e
front_any (number n) rest p whole c h e = front (number n) rest p whole refl c h e
front_any (quoted t) rest p whole c h e = front (quoted t) rest p whole refl c h e
front_any (symbol x) rest p whole c h e = front (symbol x) rest p whole refl c h e
front_any (negative n) rest p whole c h e =
    let small : n < 9223372036854775808 = ltb-true n 9223372036854775808 c in
    let there : whole ≡ (p ++ 45 ∷ []) ++ (digits n ++ rest) = e ∙ sym (append_assoc p (45 ∷ []) (digits n ++ rest)) in
    let one : length p + 1 ≡ length (p ++ 45 ∷ []) = sym (longer p (45 ∷ [])) in
    let both : length (p ++ 45 ∷ []) + length (digits n) ≡ length p + length (45 ∷ digits n) = omega (arith, one) in
    front (symbol s.Minus) (digits n ++ rest) p whole refl refl (minus_cut n rest small) e
    ∙ ap (λ (j : ℕ). sign k.Minus ∷ lexemes_of whole (tokens_from 0 j (digits n ++ rest))) one
    ∙ ap (λ (xs : List Lexeme). sign k.Minus ∷ xs) (front (number n) rest (p ++ 45 ∷ []) whole refl c h there)
    ∙ ap (λ (j : ℕ). sign k.Minus ∷ number_lexeme n ∷ lexemes_of whole (tokens_from 0 j rest)) both

space : (at : ℕ) (z : List ℕ) → is_blank (get_or z 0 0) ≡ false → tokens_from 0 at (32 ∷ z) ≡ tokens_from 0 (at + 1) z
space at z h = tokens_from-step (32 ∷ z) at (None, 1) (omega arith) (piece_space z h) (omega arith)

-- the first token stands at the front of the text
abbrev behind : Token → List Token → List ℕ
behind t [] = []
behind t (u ∷ more) = gap (is_tight_behind t || is_tight_before u) ++ written (u ∷ more)

written_front : (t : Token) (more : List Token) → written (t ∷ more) ≡ token_text t ++ behind t more
written_front t [] = sym (append-nil (token_text t))
written_front t (u ∷ more) = append_assoc (token_text t) (gap (is_tight_behind t || is_tight_before u)) (written (u ∷ more))

first_same : (y z : List ℕ) → 0 < length y → get_or (y ++ z) 0 0 ≡ get_or y 0 0
first_same [] z h = absurd (omega arith)
first_same (x ∷ y) z h = refl

first_blank : (t : Token) (more : List Token) → can_stand t ≡ true → is_blank (get_or (written (t ∷ more)) 0 0) ≡ false
first_blank t more c =
    let b = begun t c in
    ap (λ (z : List ℕ). is_blank (get_or z 0 0)) (written_front t more) ∙ ap is_blank (first_same (token_text t) (behind t more) b.some) ∙ b.blank

cut_here : (t : Token) (more : List Token) → can_stand t ≡ true → IsCut t (behind t more)
cut_here t [] c = cut_at t [] c refl
cut_here t (u ∷ more) c = decide (is_tight_behind t) (is_tight_before u) refl refl
  where
    decide : (x y : Bool) → is_tight_behind t ≡ x → is_tight_before u ≡ y → IsCut t (gap (is_tight_behind t || is_tight_before u) ++ written (u ∷ more))
    decide true y e f = tight_at t _ e
    decide false true e f =
        let g : (is_tight_behind t || is_tight_before u) ≡ true = ap (λ x. x || is_tight_before u) e ∙ f in
        subst (λ (v : Bool). IsCut t (gap v ++ written (u ∷ more))) (sym g)
        (cut_at t (written (u ∷ more)) c (ap (λ (z : List ℕ). is_end (get_or z 0 0)) (written_front u more) ∙ ends_before u (behind u more) f))
    decide false false e f =
        let g : (is_tight_behind t || is_tight_before u) ≡ false = ap (λ x. x || is_tight_before u) e ∙ f in
        subst (λ (v : Bool). IsCut t (gap v ++ written (u ∷ more))) (sym g) (cut_at t (32 ∷ written (u ∷ more)) c refl)

passes : (v : Bool) (p z whole : List ℕ) (ts : List Token) → is_blank (get_or z 0 0) ≡ false
    → ((q : List ℕ) → whole ≡ q ++ z → lexemes_of whole (tokens_from 0 (length q) z) ≡ token_lexemes ts)
    → whole ≡ p ++ (gap v ++ z) → lexemes_of whole (tokens_from 0 (length p) (gap v ++ z)) ≡ token_lexemes ts
passes true p z whole ts b h e = h p e
passes false p z whole ts b h e =
    let n : length p + 1 ≡ length (p ++ 32 ∷ []) = sym (longer p (32 ∷ [])) in
    ap (lexemes_of whole) (space (length p) z b ∙ ap (λ (j : ℕ). tokens_from 0 j z) n) ∙ h (p ++ 32 ∷ []) (e ∙ sym (append_assoc p (32 ∷ []) z))

seen : (ts : List Token) (p whole : List ℕ) → list_all can_stand ts ≡ true → whole ≡ p ++ written ts → lexemes_of whole (tokens_from 0 (length p) (written ts)) ≡ token_lexemes ts
seen [] p whole c e = refl
seen (t ∷ []) p whole c e =
    let here = (and_parts (can_stand t) true c).0 in
    let split : token_text t ≡ token_text t ++ [] = sym (append-nil (token_text t)) in
    ap (λ (z : List ℕ). lexemes_of whole (tokens_from 0 (length p) z)) split
    ∙ front_any t [] p whole here (cut_here t [] here) (e ∙ ap (λ (z : List ℕ). p ++ z) split)
seen (t ∷ u ∷ more) p whole c e =
    let both = and_parts (can_stand t) (list_all can_stand (u ∷ more)) c in
    let next = (and_parts (can_stand u) (list_all can_stand more) both.1).0 in
    let v = is_tight_behind t || is_tight_before u in
    let rest = gap v ++ written (u ∷ more) in
    let split = written_front t (u ∷ more) in
    let whole_is : whole ≡ p ++ (token_text t ++ rest) = e ∙ ap (λ (z : List ℕ). p ++ z) split in
    ap (λ (z : List ℕ). lexemes_of whole (tokens_from 0 (length p) z)) split
    ∙ front_any t rest p whole both.0 (cut_here t (u ∷ more) both.0) whole_is
    ∙ ap (λ (xs : List Lexeme). lexemes_of_token t ++ xs)
    (ap (λ (j : ℕ). lexemes_of whole (tokens_from 0 j rest)) (sym (longer p (token_text t)))
    ∙ passes v (p ++ token_text t) (written (u ∷ more)) whole (u ∷ more) (first_blank u more next) (λ q f. seen (u ∷ more) q whole both.1 f) (whole_is ∙ sym (append_assoc p (token_text t) rest)))

pub read_back : (ts : List Token) → IsReadBack ts
unfolding tokens_of
read_back ts c = seen ts [] (written ts) c refl
