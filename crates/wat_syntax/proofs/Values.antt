-- The tokens of a text have values.
use Rattle.std.proofs.Common.{◌≡◌, ℕ, ◌+◌, ◌-◌, ◌<◌, ◌≤◌, Bool, true, false, not, ◌&&◌, if◌then◌else◌, nat_lt, nat_le, List, [], ◌∷◌, ◌++◌, length, take, drop, slice_index, Option, Some, None, is_some, IsSome, refl, sym, ◌∙◌, ap, subst, length-append, length-drop, arith}
use Rattle.std.proofs.lemmas.Bool.{and_parts}
use Rattle.std.proofs.lemmas.Bool.Decides.{nat_tests}
use Rattle.std.proofs.lemmas.List.{length-map, drop-drop}
use Rattle.std.proofs.lemmas.List.Prefix.{front_rest}
use Rattle.std.proofs.lemmas.Str.Ascii.{lowercase-lowercase}
use Rattle.std.specs.Char.{is_ascii_uppercase, to_ascii_lowercase}
use Rattle.std.specs.List.{list_all, AllByRecursion}
use Rattle.std.specs.Str.{bytes_eq}
use Rattle.wat_word.specs.declared.keyword.Keyword.{Keyword}
use Rattle.wat_word.specs.Words.{begins_word, is_word_byte, is_word, is_lower, is_name, is_same_word, read_by, reserved, keyword}
use Rattle.wat_lex.specs.declared.token.TokenKind.{TokenKind}
use Rattle.wat_lex.specs.declared.token.TokenKind.TheVariants.{Word, Number, Quoted, Symbol, Bad}
use Rattle.wat_lex.specs.declared.token.Token.{Token}
use Rattle.wat_lex.specs.Rules.{decimal, IsRead, IsCut, nothing, skips, reads, fails}
use Rattle.wat_lex.specs.Values.{token_bytes, lower_case, number_value}
use Rattle.wat_lex.proofs.Cuts.{tokens_of-cut}
use Rattle.wat_syntax.specs.Values.{HasValue, HaveValues}

both : (a b : Bool) → a ≡ true → b ≡ true → (a && b) ≡ true
both true b e f = f
both false b e f = cc

lower_begins : (b : ℕ) → begins_word b ≡ true → begins_word (to_ascii_lowercase b) ≡ true
lower_begins b e = grind (arith, nat_tests)

lower_byte : (b : ℕ) → is_word_byte b ≡ true → is_word_byte (to_ascii_lowercase b) ≡ true
lower_byte b e = grind (arith, nat_tests)

lower_is_small : (b : ℕ) → not (is_ascii_uppercase (to_ascii_lowercase b)) ≡ true
lower_is_small b = grind (arith, nat_tests)

lower_bytes : (s : List ℕ) → list_all is_word_byte s ≡ true → list_all is_word_byte (lower_case s) ≡ true
lower_bytes [] e = refl
lower_bytes (b ∷ s) e =
    let p = and_parts (is_word_byte b) (list_all is_word_byte s) e in
    both (is_word_byte (to_ascii_lowercase b)) (list_all is_word_byte (lower_case s)) (lower_byte b p.0) (lower_bytes s p.1)

lower_first : (s : List ℕ) → begins_word (slice_index s 0) ≡ true → begins_word (slice_index (lower_case s) 0) ≡ true
lower_first [] e = e
lower_first (b ∷ s) e = lower_begins b e

lower_small : (s : List ℕ) → is_lower (lower_case s) ≡ true
lower_small [] = refl
lower_small (b ∷ s) = both (not (is_ascii_uppercase (to_ascii_lowercase b))) (is_lower (lower_case s)) (lower_is_small b) (lower_small s)

lower_twice : (s : List ℕ) → lower_case (lower_case s) ≡ lower_case s
lower_twice [] = refl
lower_twice (b ∷ s) = ap (λ (c : ℕ). c ∷ lower_case (lower_case s)) (lowercase-lowercase b) ∙ ap (λ (l : List ℕ). to_ascii_lowercase b ∷ l) (lower_twice s)

read_lower : (ws : List (List ℕ × Keyword)) (s : List ℕ) → read_by ws (lower_case s) ≡ read_by ws s
read_lower [] s = refl
read_lower (w ∷ ws) s =
    let same : is_same_word w.0 (lower_case s) ≡ is_same_word w.0 s = ap (bytes_eq (lower_case w.0)) (lower_twice s) in
    ap (λ (b : Bool). if b then Some w.1 else read_by ws (lower_case s)) same
    ∙ ap (λ (o : Option Keyword). if is_same_word w.0 s then Some w.1 else o) (read_lower ws s)

keyword_lower : (s : List ℕ) → keyword (lower_case s) ≡ keyword s
unfolding keyword
keyword_lower s = read_lower reserved s

word_is_name : (s : List ℕ) → is_word s ≡ true → keyword s ≡ None → is_name (lower_case s) ≡ true
word_is_name s w none =
    let p = and_parts (nat_le (length s) 128 && begins_word (slice_index s 0)) (list_all is_word_byte s) w in
    let q = and_parts (nat_le (length s) 128) (begins_word (slice_index s 0)) p.0 in
    let short : nat_le (length (lower_case s)) 128 ≡ true = ap (λ (n : ℕ). nat_le n 128) (length-map s to_ascii_lowercase) ∙ q.0 in
    let free : not (is_some (keyword (lower_case s))) ≡ true = ap (λ (o : Option Keyword). not (is_some o)) (keyword_lower s ∙ none) in
    both (is_word (lower_case s) && is_lower (lower_case s)) (not (is_some (keyword (lower_case s))))
    (both (is_word (lower_case s)) (is_lower (lower_case s))
    (both (nat_le (length (lower_case s)) 128 && begins_word (slice_index (lower_case s) 0)) (list_all is_word_byte (lower_case s))
    (both (nat_le (length (lower_case s)) 128) (begins_word (slice_index (lower_case s) 0)) short (lower_first s q.1)) (lower_bytes s p.1))
    (lower_small s))
    free

number_has_value : (s : List ℕ) → decimal s < 9223372036854775808 → IsSome (number_value s)
unfolding number_value
number_has_value s h =
    let e : nat_lt (decimal s) 9223372036854775808 ≡ true = grind (arith, nat_tests) in
    let P : Bool → Type 0 = λ b. IsSome (if b then Some (decimal s) else None) in
    subst P (sym e) refl

has_value : (kind : TokenKind) (s rest : List ℕ) → IsRead kind s rest → HasValue kind s
has_value Word s rest r = word_is_name s r.0
has_value Number s rest r = number_has_value s r.1
has_value Quoted s rest r = tt
has_value Symbol s rest r = tt
has_value Bad s rest r = tt

within : (bs : List ℕ) (at : ℕ) (s rest : List ℕ) → at ≤ length bs → drop at bs ≡ s ++ rest → at + length s ≤ length bs
within bs at s rest le e = omega (arith, length-drop at bs, ap length e, length-append s rest)

next : (bs : List ℕ) (at : ℕ) (s rest : List ℕ) → drop at bs ≡ s ++ rest → drop (at + length s) bs ≡ rest
next bs at s rest e = sym (drop-drop (length s) at bs) ∙ ap (drop (length s)) e ∙ front_rest (s ++ rest) s rest refl

take_front : (s rest : List ℕ) → take (length s) (s ++ rest) ≡ s
take_front [] rest = refl
take_front (b ∷ s) rest = ap (λ (l : List ℕ). b ∷ l) (take_front s rest)

bytes_are : (bs : List ℕ) (kind : TokenKind) (at : ℕ) (s rest : List ℕ) → drop at bs ≡ s ++ rest → token_bytes bs (record { kind = kind; from = at; to = at + length s }) ≡ s
bytes_are bs kind at s rest e =
    let count : at + length s - at ≡ length s = omega arith in
    ap (λ (n : ℕ). take n (drop at bs)) count ∙ ap (take (length s)) e ∙ take_front s rest

valued : (bs : List ℕ) {at : ℕ} {z : List ℕ} {ts : List Token} → IsCut at z ts → at ≤ length bs → drop at bs ≡ z → AllByRecursion (λ t. HasValue t.kind (token_bytes bs t)) ts
valued bs (nothing at) le e = tt
valued bs (skips at s rest ts some k c) le e = valued bs c (within bs at s rest le e) (next bs at s rest e)
valued bs (reads at kind s rest ts some r c) le e =
    (subst (HasValue kind) (sym (bytes_are bs kind at s rest e)) (has_value kind s rest r), valued bs c (within bs at s rest le e) (next bs at s rest e))
valued bs (fails at s some un) le e = (tt, tt)

pub have_values : (text : List ℕ) → HaveValues text
have_values text = valued text (tokens_of-cut text) (omega arith) refl
