-- What keeps a rule is the piece at the front of a text.
use Rattle.std.proofs.Common.{◌≡◌, ◌≢◌, ◌==◌, ◌⊎◌, inl, inr, ℕ, ◌+◌, ◌-◌, ◌*◌, ◌/◌, ◌%◌, ◌^◌, ◌<◌, ◌≤◌, min, nat_le, nat_lt, Bool, true, false, not, ◌&&◌, cond, List, [], ◌∷◌, ◌++◌, length, take, get_or, fold, Option, Some, None, refl, sym, ◌∙◌, ap, append_assoc, arith}
use Rattle.std.proofs.lemmas.Bool.{and_parts, lt-ltb, ne_eqb, or_parts, cond-true, cond-false}
use Rattle.std.proofs.lemmas.Bool.Decides.{nat_tests}
use Rattle.std.proofs.Math.Seq.{take-append_seam}
use Rattle.std.proofs.lemmas.Fmt.{decimal_by_steps}
use Rattle.std.specs.Char.{is_ascii_digit}
use Rattle.std.specs.List.{prefix_len, list_all, flat_map}
use Rattle.std.specs.Fmt.{decimal as digits}
use Rattle.wat_word.specs.Words.{begins_word, is_word_byte, is_word}
use Rattle.wat_lex.specs.declared.token.TokenKind.{TokenKind}
use Rattle.wat_lex.specs.declared.token.TokenKind.TheVariants.{Word, Number, Quoted, Symbol, Bad}
use Rattle.wat_lex.specs.Tokens.{Piece, is_blank, is_no_line_feed, bad, ended, word, value_of, number, closing, quoted, comment_end, comment, is_pair, is_single, symbol, piece}
use Rattle.wat_lex.specs.Rules as rules
use Rattle.wat_lex.specs.Rules.{IsWordEnd, decimal, doubled, in_quotes, opens_comment, IsSymbol, IsRead, has_close, IsLineComment}
use Rattle.wat_lex.proofs.Rules.{capped}
use Rattle.wat_lex.proofs.Sets.{pair_same, single_same}

-- ---- what a byte is not

pub record IsPlain (b c : ℕ) : Type 0 where
  pub blank : is_blank b ≡ false
  pub dash : (b == 45 && c == 45) ≡ false
  pub slash : (b == 47 && c == 42) ≡ false
  pub quote : (b == 39) ≡ false

pub word_plain : (b c : ℕ) → begins_word b ≡ true → IsPlain b c
word_plain b c e = record { blank = grind (arith, nat_tests); dash = grind (arith, nat_tests); slash = grind (arith, nat_tests); quote = grind (arith, nat_tests) }

word_no_digit : (b : ℕ) → begins_word b ≡ true → is_ascii_digit b ≡ false
word_no_digit b e = grind (arith, nat_tests)

word_byte : (b : ℕ) → begins_word b ≡ true → is_word_byte b ≡ true
word_byte b e = grind (arith, nat_tests)

pub digit_plain : (b c : ℕ) → is_ascii_digit b ≡ true → IsPlain b c
digit_plain b c e = record { blank = grind (arith, nat_tests); dash = grind (arith, nat_tests); slash = grind (arith, nat_tests); quote = grind (arith, nat_tests) }

record IsMark (b : ℕ) : Type 0 where
  pub blank : is_blank b ≡ false
  pub quote : (b == 39) ≡ false
  pub digit : is_ascii_digit b ≡ false
  pub letter : is_word_byte b ≡ false

single_mark : (b : ℕ) → is_single b ≡ true → IsMark b
single_mark b e = record { blank = grind (arith, nat_tests); quote = grind (arith, nat_tests); digit = grind (arith, nat_tests); letter = grind (arith, nat_tests) }

pair_mark : (b c : ℕ) → is_pair b c ≡ true → IsMark b
pair_mark b c e = record { blank = grind (arith, nat_tests); quote = grind (arith, nat_tests); digit = grind (arith, nat_tests); letter = grind (arith, nat_tests) }

stops : (p : ℕ → Bool) (rest : List ℕ) → p (get_or rest 0 0) ≡ false → prefix_len p rest ≡ 0
stops p [] e = refl
stops p (x ∷ xs) e = ap (λ t. cond t (1 + prefix_len p xs) 0) e

exact : (p : ℕ → Bool) (s rest : List ℕ) → list_all p s ≡ true → p (get_or rest 0 0) ≡ false → prefix_len p (s ++ rest) ≡ length s
exact p [] rest a e = stops p rest e
exact p (x ∷ s) rest a e =
    let h = and_parts (p x) (list_all p s) a in
    let ih : prefix_len p (s ++ rest) ≡ length s = exact p s rest h.1 e in
    ap (λ t. cond t (1 + prefix_len p (s ++ rest)) 0) h.0 ∙ omega (arith, ih)

-- ---- the piece at the front, by its first two bytes

module _ (z : List ℕ) (plain : IsPlain (get_or z 0 0) (get_or z 1 0)) where
  piece_plain : piece z ≡ cond (is_ascii_digit (get_or z 0 0)) (number z) (cond (is_word_byte (get_or z 0 0)) (word z) (symbol z))
  unfolding piece
  piece_plain = rw (plain.blank, plain.dash, plain.slash, plain.quote) refl

  piece_number : is_ascii_digit (get_or z 0 0) ≡ true → piece z ≡ number z
  piece_number h = piece_plain ∙ cond-true (is_ascii_digit (get_or z 0 0)) (number z) (cond (is_word_byte (get_or z 0 0)) (word z) (symbol z)) h

  piece_word : is_ascii_digit (get_or z 0 0) ≡ false → is_word_byte (get_or z 0 0) ≡ true → piece z ≡ word z
  piece_word h g =
      piece_plain ∙ cond-false (is_ascii_digit (get_or z 0 0)) (number z) (cond (is_word_byte (get_or z 0 0)) (word z) (symbol z)) h
      ∙ cond-true (is_word_byte (get_or z 0 0)) (word z) (symbol z) g

  piece_symbol : is_ascii_digit (get_or z 0 0) ≡ false → is_word_byte (get_or z 0 0) ≡ false → piece z ≡ symbol z
  piece_symbol h g =
      piece_plain ∙ cond-false (is_ascii_digit (get_or z 0 0)) (number z) (cond (is_word_byte (get_or z 0 0)) (word z) (symbol z)) h
      ∙ cond-false (is_word_byte (get_or z 0 0)) (word z) (symbol z) g

piece_quoted : (z : List ℕ) → is_blank (get_or z 0 0) ≡ false → (get_or z 0 0 == 45 && get_or z 1 0 == 45) ≡ false → (get_or z 0 0 == 47 && get_or z 1 0 == 42) ≡ false
    → (get_or z 0 0 == 39) ≡ true → piece z ≡ quoted z
unfolding piece
piece_quoted z e0 e1 e2 e = rw (e0, e1, e2, e) refl

pub piece_space : (z : List ℕ) → is_blank (get_or z 0 0) ≡ false → let p : Piece = (None, 1) in p ≡ piece (32 ∷ z)
unfolding piece
piece_space z h = let n : prefix_len is_blank z ≡ 0 = stops is_blank z h in sym (ap (λ (m : ℕ). let p : Piece = (None, 1 + m) in p) n)

-- ---- words

abbrev pub piece_of : TokenKind → ℕ → Piece
piece_of kind n = (Some kind, n)

pub word_piece : (s rest : List ℕ) → is_word s ≡ true → is_word_byte (get_or rest 0 0) ≡ false → piece_of Word (length s) ≡ piece (s ++ rest)
word_piece [] rest e w = cc
word_piece (b ∷ s) rest e w =
    let h = and_parts (nat_le (length (b ∷ s)) 128 && begins_word b) (list_all is_word_byte (b ∷ s)) e in
    let g = and_parts (nat_le (length (b ∷ s)) 128) (begins_word b) h.0 in
    let n : prefix_len is_word_byte (b ∷ (s ++ rest)) ≡ length (b ∷ s) = exact is_word_byte (b ∷ s) rest h.1 w in
    sym (
    piece_word (b ∷ (s ++ rest)) (word_plain b (get_or (s ++ rest) 0 0) g.1) (word_no_digit b g.1) (word_byte b g.1)
    ∙ ap (λ (m : ℕ). cond (nat_le m 128) (piece_of Word m) (bad (b ∷ (s ++ rest)))) n
    ∙ ap (λ t. cond t (piece_of Word (length (b ∷ s))) (bad (b ∷ (s ++ rest)))) g.0
    )

-- ---- numbers

after_seam : (s rest : List ℕ) → get_or (s ++ rest) (length s) 0 ≡ get_or rest 0 0
after_seam [] rest = refl
after_seam (x ∷ s) rest = after_seam s rest

no_digit : (x : ℕ) → is_word_byte x ≡ false → is_ascii_digit x ≡ false
no_digit x e = grind (arith, nat_tests)

number_at : ℕ → List ℕ → Piece
number_at n z = cond (nat_lt (value_of (take n z)) 9223372036854775808 && not (is_word_byte (get_or z n 0))) (piece_of Number n) (bad z)

number_piece : (s rest : List ℕ) → 0 < length s → list_all is_ascii_digit s ≡ true → decimal s < 9223372036854775808 → is_word_byte (get_or rest 0 0) ≡ false → piece_of Number (length s) ≡ piece (s ++ rest)
unfolding number_at
number_piece [] rest some e small w = absurd (omega arith)
number_piece (b ∷ s) rest some e small w =
    let h = and_parts (is_ascii_digit b) (list_all is_ascii_digit s) e in
    let n : prefix_len is_ascii_digit (b ∷ (s ++ rest)) ≡ length (b ∷ s) = exact is_ascii_digit (b ∷ s) rest e (no_digit (get_or rest 0 0) w) in
    let c : value_of (b ∷ s) ≡ min (decimal (b ∷ s)) 9223372036854775808 = capped 0 (b ∷ s) in
    let below : value_of (b ∷ s) < 9223372036854775808 = omega (arith, c, small) in
    let v : nat_lt (value_of (take (length (b ∷ s)) ((b ∷ s) ++ rest))) 9223372036854775808 ≡ true =
    ap (λ (y : List ℕ). nat_lt (value_of y) 9223372036854775808) (take-append_seam (b ∷ s) rest) ∙ lt-ltb (value_of (b ∷ s)) 9223372036854775808 below in
    let u : not (is_word_byte (get_or ((b ∷ s) ++ rest) (length (b ∷ s)) 0)) ≡ true =
    ap (λ (x : ℕ). not (is_word_byte x)) (after_seam (b ∷ s) rest) ∙ ap not w in
    sym (
    piece_number (b ∷ (s ++ rest)) (digit_plain b (get_or (s ++ rest) 0 0) h.0) h.0
    ∙ ap (λ (m : ℕ). number_at m (b ∷ (s ++ rest))) n
    ∙ ap (λ t. cond (t && not (is_word_byte (get_or ((b ∷ s) ++ rest) (length (b ∷ s)) 0))) (piece_of Number (length (b ∷ s))) (bad (b ∷ (s ++ rest)))) v
    ∙ ap (λ t. cond t (piece_of Number (length (b ∷ s))) (bad (b ∷ (s ++ rest)))) u
    )

-- what the digits of a number are
pub record AreDigits (n : ℕ) (s : List ℕ) : Type 0 where
  pub some : 0 < length s
  pub digit : list_all is_ascii_digit s ≡ true
  pub value : decimal s ≡ n

one_digit : (n : ℕ) → n < 10 → AreDigits n ((48 + n) ∷ [])
one_digit n h = record { some = omega arith; digit = grind (arith, nat_tests); value = omega arith }

all_push : (p : ℕ → Bool) (s : List ℕ) (x : ℕ) → list_all p s ≡ true → p x ≡ true → list_all p (s ++ x ∷ []) ≡ true
all_push p [] x e f = ap (λ t. t && true) f
all_push p (y ∷ s) x e f =
    let h = and_parts (p y) (list_all p s) e in
    ap (λ t. t && list_all p (s ++ x ∷ [])) h.0 ∙ all_push p s x h.1 f

fold_push : (a x : ℕ) (s : List ℕ) → fold (λ n b. 10 * n + (b - 48)) a (s ++ x ∷ []) ≡ 10 * fold (λ n b. 10 * n + (b - 48)) a s + (x - 48)
fold_push a x [] = refl
fold_push a x (y ∷ s) = fold_push (10 * a + (y - 48)) x s

length_push : (s : List ℕ) (x : ℕ) → 0 < length (s ++ x ∷ [])
length_push [] x = omega arith
length_push (y ∷ s) x = omega arith

digit_of : (d : ℕ) → d < 10 → is_ascii_digit (48 + d) ≡ true
digit_of d h = grind (arith, nat_tests)

more_digits : (n : ℕ) (s : List ℕ) → 10 ≤ n → AreDigits (n / 10) s → AreDigits n (s ++ ((48 + n % 10) ∷ []))
more_digits n s h a =
    let low : n % 10 < 10 = omega arith in
    let v : decimal (s ++ ((48 + n % 10) ∷ [])) ≡ 10 * decimal s + (48 + n % 10 - 48) = fold_push 0 (48 + n % 10) s in
    record {
      some = length_push s (48 + n % 10);
      digit = all_push is_ascii_digit s (48 + n % 10) a.digit (digit_of (n % 10) low);
      value = omega (arith, v, a.value);
    }

pub are_digits : (n : ℕ) → n < 2 ^ 64 → AreDigits n (digits n)
are_digits = decimal_by_steps AreDigits one_digit more_digits

pub digits_piece : (n : ℕ) (rest : List ℕ) → n < 9223372036854775808 → is_word_byte (get_or rest 0 0) ≡ false → piece_of Number (length (digits n)) ≡ piece (digits n ++ rest)
digits_piece n rest h w =
    let wide : n < 2 ^ 64 = omega arith in
    let a = are_digits n wide in
    let small : decimal (digits n) < 9223372036854775808 = omega (arith, a.value) in
    number_piece (digits n) rest a.some a.digit small w

-- ---- quotes

closes_pair : (at b e : ℕ) (y : List ℕ) (t : Bool) → (b == 39) ≡ t → ((a : ℕ) → closing false a y ≡ Some (a + e)) → closing false at (doubled b ++ y) ≡ Some (at + (length (doubled b) + e))
closes_pair at b e y true p h =
    let n : length (doubled b) ≡ 2 = ap (λ v. length (cond v (39 ∷ 39 ∷ []) (b ∷ []))) p in
    let m : at + 1 + 1 + e ≡ at + (length (doubled b) + e) = omega (arith, n) in
    ap (λ v. closing false at (cond v (39 ∷ 39 ∷ []) (b ∷ []) ++ y)) p ∙ h (at + 1 + 1) ∙ ap (λ (k : ℕ). Some k) m
closes_pair at b e y false p h =
    let n : length (doubled b) ≡ 1 = ap (λ v. length (cond v (39 ∷ 39 ∷ []) (b ∷ []))) p in
    let m : at + 1 + e ≡ at + (length (doubled b) + e) = omega (arith, n) in
    ap (λ v. closing false at (cond v (39 ∷ 39 ∷ []) (b ∷ []) ++ y)) p
    ∙ ap (λ v. cond (v && not (get_or y 0 0 == 39)) (Some (at + 1)) (closing v (at + 1) y)) p ∙ h (at + 1) ∙ ap (λ (k : ℕ). Some k) m

length_doubled : (b : ℕ) (y z : List ℕ) → length (y ++ z) ≡ length y + length z
length_doubled b [] z = omega arith
length_doubled b (x ∷ y) z = omega (arith, length_doubled b y z)

closes : (t rest : List ℕ) → get_or rest 0 0 ≢ 39 → (at : ℕ) → closing false at (flat_map doubled t ++ (39 ∷ rest)) ≡ Some (at + (length (flat_map doubled t) + 1))
closes [] rest apart at =
    let m : at + 1 ≡ at + (0 + 1) = omega arith in
    ap (λ v. cond (not v) (Some (at + 1)) (closing true (at + 1) rest)) (ne_eqb (get_or rest 0 0) 39 apart) ∙ ap (λ (k : ℕ). Some k) m
closes (b ∷ t) rest apart at =
    let l : length (doubled b ++ flat_map doubled t) ≡ length (doubled b) + length (flat_map doubled t) = length_doubled b (doubled b) (flat_map doubled t) in
    let m : at + (length (doubled b) + (length (flat_map doubled t) + 1)) ≡ at + (length (doubled b ++ flat_map doubled t) + 1) = omega (arith, l) in
    ap (closing false at) (append_assoc (doubled b) (flat_map doubled t) (39 ∷ rest))
    ∙ closes_pair at b (length (flat_map doubled t) + 1) (flat_map doubled t ++ (39 ∷ rest)) (b == 39) refl (closes t rest apart) ∙ ap (λ (k : ℕ). Some k) m

pub quoted_piece : (t rest : List ℕ) → get_or rest 0 0 ≢ 39 → piece_of Quoted (length (39 ∷ (flat_map doubled t ++ 39 ∷ []))) ≡ piece (39 ∷ ((flat_map doubled t ++ 39 ∷ []) ++ rest))
quoted_piece t rest apart =
    let l : length (flat_map doubled t ++ 39 ∷ []) ≡ length (flat_map doubled t) + 1 = length_doubled 0 (flat_map doubled t) (39 ∷ []) in
    let m : 1 + (length (flat_map doubled t) + 1) ≡ length (39 ∷ (flat_map doubled t ++ 39 ∷ [])) = omega (arith, l) in
    sym (
    piece_quoted (39 ∷ ((flat_map doubled t ++ 39 ∷ []) ++ rest)) refl refl refl refl
    ∙ ap (λ (o : Option ℕ). ended (Some Quoted) (39 ∷ ((flat_map doubled t ++ 39 ∷ []) ++ rest)) o) (ap (closing false 1) (append_assoc (flat_map doubled t) (39 ∷ []) rest) ∙ closes t rest apart 1)
    ∙ ap (piece_of Quoted) m
    )

-- ---- symbols

symbol_by : (z : List ℕ) (k : ℕ) → IsMark (get_or z 0 0) → (get_or z 0 0 == 45 && get_or z 1 0 == 45) ≡ false → (get_or z 0 0 == 47 && get_or z 1 0 == 42) ≡ false
    → cond (is_pair (get_or z 0 0) (get_or z 1 0)) 2 (cond (is_single (get_or z 0 0)) 1 0) ≡ k → (k == 0) ≡ false → piece_of Symbol k ≡ piece z
symbol_by z k m o o' e q =
    sym (
    piece_symbol z (record { blank = m.blank; dash = o; slash = o'; quote = m.quote }) m.digit m.letter
    ∙ ap (λ (j : ℕ). cond (j == 0) (bad z) (piece_of Symbol j)) e
    ∙ ap (λ t. cond t (bad z) (piece_of Symbol k)) q
    )

pub pair_piece : (b c : ℕ) (rest : List ℕ) → is_pair b c ≡ true → (b == 45 && c == 45) ≡ false → (b == 47 && c == 42) ≡ false → piece_of Symbol 2 ≡ piece (b ∷ c ∷ rest)
pair_piece b c rest e o o' = symbol_by (b ∷ c ∷ rest) 2 (pair_mark b c e) o o' (ap (λ t. cond t 2 (cond (is_single b) 1 0)) e) refl

pub single_piece : (b : ℕ) (rest : List ℕ) → is_single b ≡ true → is_pair b (get_or rest 0 0) ≡ false → (b == 45 && get_or rest 0 0 == 45) ≡ false → (b == 47 && get_or rest 0 0 == 42) ≡ false
    → piece_of Symbol 1 ≡ piece (b ∷ rest)
single_piece b rest e f o o' =
    symbol_by (b ∷ rest) 1 (single_mark b e) o o' (ap (λ t. cond t 2 (cond (is_single b) 1 0)) f ∙ ap (λ t. cond t 1 0) e) refl

symbol_piece : (s rest : List ℕ) → IsSymbol s rest → opens_comment (s ++ rest) ≡ false → piece_of Symbol (length s) ≡ piece (s ++ rest)
symbol_piece [] rest (inl h) o = absurd (omega (arith, h.0))
symbol_piece [] rest (inr h) o = absurd (omega (arith, h.0))
symbol_piece (b ∷ []) rest (inl h) o = absurd (omega (arith, h.0))
symbol_piece (b ∷ []) rest (inr h) o =
    let q = or_parts (b == 45 && get_or rest 0 0 == 45) (b == 47 && get_or rest 0 0 == 42) o in
    single_piece b rest (sym (single_same b) ∙ h.1) (sym (pair_same b (get_or rest 0 0)) ∙ h.2) q.0 q.1
symbol_piece (b ∷ c ∷ []) rest (inl h) o =
    let q = or_parts (b == 45 && c == 45) (b == 47 && c == 42) o in
    pair_piece b c rest (sym (pair_same b c) ∙ h.1) q.0 q.1
symbol_piece (b ∷ c ∷ []) rest (inr h) o = absurd (omega (arith, h.0))
symbol_piece (b ∷ c ∷ d ∷ s) rest (inl h) o = absurd (omega (arith, h.0))
symbol_piece (b ∷ c ∷ d ∷ s) rest (inr h) o = absurd (omega (arith, h.0))

-- ---- comments

abbrev pub no_token : ℕ → Piece
no_token n = (None, n)

to_the_end : (p : ℕ → Bool) (s : List ℕ) → list_all p s ≡ true → prefix_len p (s ++ []) ≡ length s
to_the_end p [] a = refl
to_the_end p (x ∷ s) a =
    let h = and_parts (p x) (list_all p s) a in
    let ih : prefix_len p (s ++ []) ≡ length s = to_the_end p s h.1 in
    ap (λ t. cond t (1 + prefix_len p (s ++ [])) 0) h.0 ∙ omega (arith, ih)

line_len : (s rest : List ℕ) → IsLineComment s rest → prefix_len is_no_line_feed (s ++ rest) ≡ length s
line_len s rest h = decide h.ended
  where
    decide : (rest ≡ []) ⊎ (get_or rest 0 0 ≡ 10) → prefix_len is_no_line_feed (s ++ rest) ≡ length s
    decide (inl e) = ap (λ (y : List ℕ). prefix_len is_no_line_feed (s ++ y)) e ∙ to_the_end is_no_line_feed s h.line
    decide (inr e) = exact is_no_line_feed s rest h.line (ap is_no_line_feed e)

piece_line : (z : List ℕ) → get_or z 0 0 ≡ 45 → get_or z 1 0 ≡ 45 → piece z ≡ no_token (prefix_len is_no_line_feed z)
unfolding piece
piece_line z e f =
    let dash : (get_or z 0 0 == 45 && get_or z 1 0 == 45) ≡ true = ap (λ (v : ℕ). v == 45 && get_or z 1 0 == 45) e ∙ ap (λ (v : ℕ). v == 45) f in
    let blank : is_blank (get_or z 0 0) ≡ false = ap is_blank e in
    rw (blank, dash) refl

line_piece : (s rest : List ℕ) → IsLineComment s rest → no_token (length s) ≡ piece (s ++ rest)
line_piece [] rest h = absurd (omega (arith, h.first))
line_piece (b ∷ []) rest h = absurd (omega (arith, h.second))
line_piece (b ∷ c ∷ s) rest h = sym (piece_line (b ∷ c ∷ (s ++ rest)) h.first h.second ∙ ap no_token (line_len (b ∷ c ∷ s) rest h))

piece_comment : (z : List ℕ) → piece (47 ∷ 42 ∷ z) ≡ comment (47 ∷ 42 ∷ z)
unfolding piece
piece_comment z = refl

comment_closes : (body rest : List ℕ) (at : ℕ) → has_close (body ++ 42 ∷ []) ≡ false → comment_end at (body ++ (42 ∷ 47 ∷ rest)) ≡ Some (at + (length body + 2))
comment_closes [] rest at f = let m : at + 2 ≡ at + (0 + 2) = omega arith in ap (λ (k : ℕ). Some k) m
comment_closes (b ∷ body) rest at f =
    let q = or_parts (b == 42 && get_or (body ++ 42 ∷ []) 0 0 == 47) (has_close (body ++ 42 ∷ [])) f in
    let here : (b == 42 && get_or (body ++ (42 ∷ 47 ∷ rest)) 0 0 == 47) ≡ false = ap (λ (v : ℕ). b == 42 && v == 47) (sym (next_same body rest)) ∙ q.0 in
    let m : at + 1 + (length body + 2) ≡ at + (length (b ∷ body) + 2) = omega arith in
    ap (λ t. cond t (Some (at + 2)) (comment_end (at + 1) (body ++ (42 ∷ 47 ∷ rest)))) here ∙ comment_closes body rest (at + 1) q.1 ∙ ap (λ (k : ℕ). Some k) m
  where
    next_same : (body rest : List ℕ) → get_or (body ++ 42 ∷ []) 0 0 ≡ get_or (body ++ (42 ∷ 47 ∷ rest)) 0 0
    next_same [] rest = refl
    next_same (b ∷ body) rest = refl

block_piece : (body rest : List ℕ) → has_close (body ++ 42 ∷ []) ≡ false → no_token (length (47 ∷ 42 ∷ (body ++ 42 ∷ 47 ∷ []))) ≡ piece (47 ∷ 42 ∷ ((body ++ 42 ∷ 47 ∷ []) ++ rest))
block_piece body rest f =
    let l : length (body ++ 42 ∷ 47 ∷ []) ≡ length body + 2 = length_doubled 0 body (42 ∷ 47 ∷ []) in
    let m : 2 + (length body + 2) ≡ length (47 ∷ 42 ∷ (body ++ 42 ∷ 47 ∷ [])) = omega (arith, l) in
    sym (
    piece_comment ((body ++ 42 ∷ 47 ∷ []) ++ rest)
    ∙ ap (ended None (47 ∷ 42 ∷ ((body ++ 42 ∷ 47 ∷ []) ++ rest))) (ap (comment_end 2) (append_assoc body (42 ∷ 47 ∷ []) rest) ∙ comment_closes body rest 2 f)
    ∙ ap no_token m
    )

-- ---- together

pub token_piece : (kind : TokenKind) (s rest : List ℕ) → 0 < length s → IsRead kind s rest → piece_of kind (length s) ≡ piece (s ++ rest)
token_piece Word s rest some r = word_piece s rest r.0 r.1
token_piece Number s rest some r = number_piece s rest some r.0 r.1 r.2
token_piece Quoted s rest some r = ap (λ (y : List ℕ). piece_of Quoted (length y)) r.1 ∙ quoted_piece r.0 rest r.2 ∙ ap (λ (y : List ℕ). piece (y ++ rest)) (sym r.1)
token_piece Symbol s rest some r = symbol_piece s rest r.0 r.1
token_piece Bad s rest some r = absurd r

pub comment_piece : (s rest : List ℕ) → IsLineComment s rest ⊎ rules.IsBlockComment s → no_token (length s) ≡ piece (s ++ rest)
comment_piece s rest (inl h) = line_piece s rest h
comment_piece s rest (inr h) = ap (λ (y : List ℕ). no_token (length y)) h.1 ∙ block_piece h.0 rest h.2 ∙ ap (λ (y : List ℕ). piece (y ++ rest)) (sym h.1)

pub piece_blank : (z : List ℕ) → is_blank (get_or z 0 0) ≡ true → piece z ≡ no_token (prefix_len is_blank z)
unfolding piece
piece_blank z e = rw e refl
