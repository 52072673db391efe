-- Tokens are cut between characters.
use Rattle.std.proofs.Common.{◌≡◌, ℕ, zero, suc, ◌+◌, ◌-◌, ◌<◌, ◌≤◌, ◌⊎◌, inl, inr, Bool, true, false, List, [], ◌∷◌, ◌++◌, length, drop, get_or, Result, Ok, Err, IfOk, refl, sym, ◌∙◌, ap, subst, append_assoc, length-append, length-drop, arith, cond, filter}
use Rattle.std.proofs.lemmas.Bool.{and_parts}
use Rattle.std.proofs.lemmas.Bool.Decides.{nat_tests}
use Rattle.std.proofs.lemmas.List.{drop-drop, get_or_append_left, get_or-append-add}
use Rattle.std.proofs.lemmas.List.Prefix.{front_rest}
use Rattle.std.proofs.lemmas.Str.{IsUtf8-nil, IsUtf8-drop, IsCharBoundary-end, IsCharBoundary-before_ascii, IsCharBoundary-after_ascii, IsCharBoundary-from_drop}
use Rattle.std.specs.Char.{is_ascii_digit}
use Rattle.std.specs.List.{list_all, flat_map, AllByRecursion}
use Rattle.std.specs.Str.{IsUtf8, IsCharBoundary}
use Rattle.wat_word.specs.Words.{is_word_byte}
use Rattle.wat_lex.specs.declared.token.TokenKind.{TokenKind}
use Rattle.wat_lex.specs.declared.token.TokenKind.TheVariants.{Word, Number, Quoted, Symbol, Bad}
use Rattle.wat_lex.specs.declared.token.Token.{Token}
use Rattle.wat_lex.specs.Tokens.{tokens_of}
use Rattle.wat_lex.specs.Rules.{is_blank, is_symbol, is_pair, IsSymbol, IsRead, IsSkipped, IsCut, nothing, skips, reads, fails, doubled}
use Rattle.wat_lex.specs.Parts.{is_within, tokens_within}
use Rattle.wat_lex.specs.Values.{IsSlice}
use Rattle.wat_lex.proofs.Cuts.{tokens_of-cut}

-- the last byte is below 128
record EndsInAscii (s : List ℕ) : Type 0 where
  last : ℕ
  len : length s ≡ last + 1
  small : get_or s last 0 < 128

all_small : (p : ℕ → Bool) → ((b : ℕ) → p b ≡ true → b < 128) → (s : List ℕ) → list_all p s ≡ true → (i : ℕ) → i < length s → get_or s i 0 < 128
all_small p h [] e i lt = absurd (omega arith)
all_small p h (b ∷ s) e zero lt = h b (and_parts (p b) (list_all p s) e).0
all_small p h (b ∷ s) e (suc i) lt = all_small p h s (and_parts (p b) (list_all p s) e).1 i (omega arith)

all_end : (p : ℕ → Bool) → ((b : ℕ) → p b ≡ true → b < 128) → (s : List ℕ) → list_all p s ≡ true → 0 < length s → EndsInAscii s
all_end p h s e some = record { last = length s - 1; len = omega arith; small = all_small p h s e (length s - 1) (omega arith) }

ends_with : (xs : List ℕ) (x : ℕ) → x < 128 → EndsInAscii (xs ++ x ∷ [])
ends_with xs x lt =
    let at : get_or (xs ++ x ∷ []) (length xs + 0) 0 ≡ x = get_or-append-add xs (x ∷ []) 0 0 in
    let P : ℕ → Type 0 = λ n. get_or (xs ++ x ∷ []) n 0 < 128 in
    let plain : length xs + 0 ≡ length xs = omega arith in
    record { last = length xs; len = omega (arith, length-append xs (x ∷ [])); small = subst P plain (omega (arith, at, lt)) }

word_small : (b : ℕ) → is_word_byte b ≡ true → b < 128
word_small b e = grind (arith, nat_tests)

digit_small : (b : ℕ) → is_ascii_digit b ≡ true → b < 128
digit_small b e = grind (arith, nat_tests)

blank_small : (b : ℕ) → is_blank b ≡ true → b < 128
blank_small b e = grind (arith, nat_tests)

pair_small : (b c : ℕ) → is_pair b c ≡ true → c < 128
pair_small b c e = grind (arith, nat_tests)

single_small : (b : ℕ) → is_symbol b ≡ true → b < 128
single_small b e = grind (arith, nat_tests)

symbol_end : (s rest : List ℕ) → IsSymbol s rest → EndsInAscii s
symbol_end s rest (inl h) = record { last = 1; len = omega (arith, h.0); small = pair_small (get_or s 0 0) (get_or s 1 0) h.1 }
symbol_end s rest (inr h) = record { last = 0; len = omega (arith, h.0); small = single_small (get_or s 0 0) h.1 }

read_end : (kind : TokenKind) (s rest : List ℕ) → 0 < length s → IsRead kind s rest → EndsInAscii s
read_end Word s rest some r = all_end is_word_byte word_small s (and_parts _ _ r.0).1 some
read_end Number s rest some r = all_end is_ascii_digit digit_small s r.0 some
read_end Quoted s rest some r =
    let P : List ℕ → Type 0 = λ y. EndsInAscii y in
    subst P (sym r.1) (ends_with (39 ∷ flat_map doubled r.0) 39 (omega arith))
read_end Symbol s rest some r = symbol_end s rest r.0
read_end Bad s rest some r = absurd r

-- what stands behind is UTF-8
behind : (s rest : List ℕ) → IsUtf8 (s ++ rest) → IsCharBoundary (s ++ rest) (length s) → IsUtf8 rest
behind s rest u b =
    let P : List ℕ → Type 0 = λ y. IsUtf8 y in
    subst P (front_rest (s ++ rest) s rest refl) (IsUtf8-drop (s ++ rest) (length s) u b)

behind_ascii : (s rest : List ℕ) → IsUtf8 (s ++ rest) → EndsInAscii s → IsUtf8 rest
behind_ascii s rest u e =
    let within : e.last < length (s ++ rest) = omega (arith, length-append s rest, e.len) in
    let inside : e.last < length s = omega (arith, e.len) in
    let small : get_or (s ++ rest) e.last 0 < 128 = omega (arith, get_or_append_left s rest 0 e.last inside, e.small) in
    let P : ℕ → Type 0 = λ n. IsCharBoundary (s ++ rest) n in
    behind s rest u (subst P (sym e.len) (IsCharBoundary-after_ascii (s ++ rest) e.last u within small))

behind_line : (s rest : List ℕ) → IsUtf8 (s ++ rest) → get_or rest 0 0 ≡ 10 → IsUtf8 rest
behind_line s [] u e = absurd (omega (arith, e))
behind_line s (x ∷ rest) u e =
    let within : length s < length (s ++ x ∷ rest) = omega (arith, length-append s (x ∷ rest)) in
    let plain : length s + 0 ≡ length s = omega arith in
    let P : ℕ → Type 0 = λ n. get_or (s ++ x ∷ rest) n 0 < 128 in
    let small : get_or (s ++ x ∷ rest) (length s) 0 < 128 = subst P plain (omega (arith, get_or-append-add s (x ∷ rest) 0 0, e)) in
    behind s (x ∷ rest) u (IsCharBoundary-before_ascii (s ++ x ∷ rest) (length s) within small)

behind_comment : (s rest : List ℕ) → IsUtf8 (s ++ rest) → (rest ≡ []) ⊎ (get_or rest 0 0 ≡ 10) → IsUtf8 rest
behind_comment s rest u (inl e) = let P : List ℕ → Type 0 = λ y. IsUtf8 y in subst P (sym e) IsUtf8-nil
behind_comment s rest u (inr e) = behind_line s rest u e

behind_skipped : (s rest : List ℕ) → 0 < length s → IsSkipped s rest → IsUtf8 (s ++ rest) → IsUtf8 rest
behind_skipped s rest some (inl e) u = behind_ascii s rest u (all_end is_blank blank_small s e some)
behind_skipped s rest some (inr (inl h)) u = behind_comment s rest u h.ended
behind_skipped s rest some (inr (inr h)) u =
    let P : List ℕ → Type 0 = λ y. EndsInAscii y in
    let split : (47 ∷ 42 ∷ (h.0 ++ 42 ∷ [])) ++ 47 ∷ [] ≡ s = ap (λ (y : List ℕ). 47 ∷ 42 ∷ y) (append_assoc h.0 (42 ∷ []) (47 ∷ [])) ∙ sym h.1 in
    behind_ascii s rest u (subst P split (ends_with (47 ∷ 42 ∷ (h.0 ++ 42 ∷ [])) 47 (omega arith)))

within : (bs : List ℕ) (at : ℕ) (s rest : List ℕ) → at ≤ length bs → drop at bs ≡ s ++ rest → at + length s ≤ length bs
within bs at s rest le e = omega (arith, length-drop at bs, ap length e, length-append s rest)

next : (bs : List ℕ) (at : ℕ) (s rest : List ℕ) → drop at bs ≡ s ++ rest → drop (at + length s) bs ≡ rest
next bs at s rest e = sym (drop-drop (length s) at bs) ∙ ap (drop (length s)) e ∙ front_rest (s ++ rest) s rest refl

starts : (bs : List ℕ) (at : ℕ) (z : List ℕ) → at ≤ length bs → drop at bs ≡ z → IsUtf8 z → IsCharBoundary bs at
starts bs at z le e u = let P : List ℕ → Type 0 = λ y. IsUtf8 y in IsCharBoundary-from_drop bs at le (subst P (sym e) u)

sliced : (bs : List ℕ) {at : ℕ} {z : List ℕ} {ts : List Token} → IsCut at z ts → at ≤ length bs → drop at bs ≡ z → IsUtf8 z → AllByRecursion (IsSlice bs) ts
sliced bs (nothing at) le e u = tt
sliced bs (skips at s rest ts some k c) le e u = sliced bs c (within bs at s rest le e) (next bs at s rest e) (behind_skipped s rest some k u)
sliced bs (reads at kind s rest ts some r c) le e u =
    let more : IsUtf8 rest = behind_ascii s rest u (read_end kind s rest some r) in (
      record { ordered = omega arith; begins = starts bs at (s ++ rest) le e u; ends = starts bs (at + length s) rest (within bs at s rest le e) (next bs at s rest e) more },
      sliced bs c (within bs at s rest le e) (next bs at s rest e) more,
    )
sliced bs (fails at s some un) le e u =
    let P : ℕ → Type 0 = λ n. IsCharBoundary bs n in
    let end : length bs ≡ at + length s = omega (arith, length-drop at bs, ap length e) in (
      record { ordered = omega arith; begins = starts bs at s le e u; ends = subst P end (IsCharBoundary-end bs) },
      tt,
    )

pub slices_of : {E : Type 0} (z : List ℕ) (r : Result (List Token) E) → IsUtf8 z → IfOk r (λ ts. IsCut 0 z ts) → IfOk r (λ ts. AllByRecursion (IsSlice z) ts)
slices_of z (Ok ts) u c = sliced z c (omega arith) refl u
slices_of z (Err x) u c = tt

chosen : (P : Token → Type 0) (t : Token) (v : Bool) (ts : List Token) → P t → AllByRecursion P ts → AllByRecursion P (cond v (t ∷ ts) ts)
chosen P t true ts h g = (h, g)
chosen P t false ts h g = g

kept : (P : Token → Type 0) (p : Token → Bool) (ts : List Token) → AllByRecursion P ts → AllByRecursion P (filter p ts)
kept P p [] h = tt
kept P p (t ∷ ts) h = chosen P t (p t) (filter p ts) h.0 (kept P p ts h.1)

-- the tokens of a part of a text are cut between characters too
pub part_sliced : (z : List ℕ) (from to : ℕ) → IsUtf8 z → AllByRecursion (IsSlice z) (tokens_within z from to)
part_sliced z from to u = kept (IsSlice z) (is_within from to) (tokens_of z) (sliced z (tokens_of-cut z) (omega arith) refl u)
