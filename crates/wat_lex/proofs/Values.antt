-- The values of numbers and of strings.
use Rattle.std.proofs.Common.{◌≡◌, ◌≢◌, ◌==◌, ℕ, suc, ◌<◌, ◌≤◌, min, nat_lt, Bool, true, false, not, ◌&&◌, cond, List, [], ◌∷◌, ◌++◌, length, get_or, Some, None, refl, sym, ◌∙◌, ap, subst, append_assoc, arith}
use Rattle.std.proofs.lemmas.Bool.{and_parts, eqb-true, le-ltb, lt-ltb, ltb-true, ltb-false, ne_eqb}
use Rattle.std.proofs.lemmas.List.{append-nil}
use Rattle.std.proofs.lemmas.Str.{IsUtf8-nil, IsUtf8-append, IsUtf8-drop, IsUtf8-encode, IsCharBoundary-after_ascii, encode_ascii, inside_one, length-encode, len_utf8_bounds}
use Rattle.std.proofs.Math.Utf8.{encode, encodes, scalars}
use Rattle.std.specs.Char.{IsScalar}
use Rattle.std.specs.List.{flat_map}
use Rattle.std.specs.Str.{IsUtf8}
use Rattle.wat_lex.specs.Tokens.{value_of}
use Rattle.wat_lex.specs.Rules.{decimal, doubled}
use Rattle.wat_lex.specs.Values.{number_value, unquoted, string_text}
use Rattle.wat_lex.proofs.Rules.{capped}

pub small_value : (s : List ℕ) (v : ℕ) → v ≡ value_of s → v < 9223372036854775808 → number_value s ≡ Some v
unfolding number_value
small_value s v e lt =
    let c : value_of s ≡ min (decimal s) 9223372036854775808 = capped 0 s in
    let d : decimal s ≡ v = omega (arith, c, e, lt) in
    ap (λ (n : ℕ). cond (nat_lt n 9223372036854775808) (Some n) None) d ∙ ap (λ (t : Bool). cond t (Some v) None) (lt-ltb v 9223372036854775808 lt)

pub large_value : (s : List ℕ) (v : ℕ) → v ≡ value_of s → 9223372036854775808 ≤ v → number_value s ≡ None
unfolding number_value
large_value s v e le =
    let c : value_of s ≡ min (decimal s) 9223372036854775808 = capped 0 s in
    let d : 9223372036854775808 ≤ decimal s = omega (arith, c, e, le) in
    ap (λ (t : Bool). cond t (Some (decimal s)) None) (le-ltb (decimal s) 9223372036854775808 d)

-- ---- strings

read_doubled : (b : ℕ) (y t : List ℕ) (v : Bool) → (b == 39) ≡ v → unquoted false y ≡ t → unquoted false (doubled b ++ y) ≡ b ∷ t
read_doubled b y t true e h =
    ap (λ (v : Bool). unquoted false (cond v (39 ∷ 39 ∷ []) (b ∷ []) ++ y)) e
    ∙ ap (λ (w : List ℕ). 39 ∷ w) h
    ∙ ap (λ (x : ℕ). x ∷ t) (sym (eqb-true b 39 e))
read_doubled b y t false e h =
    ap (λ (v : Bool). unquoted false (cond v (39 ∷ 39 ∷ []) (b ∷ []) ++ y)) e
    ∙ ap (λ (v : Bool). cond (v && true) (unquoted true y) (b ∷ unquoted false y)) e
    ∙ ap (λ (w : List ℕ). b ∷ w) h

between_quotes : (t : List ℕ) → unquoted false (flat_map doubled t ++ 39 ∷ []) ≡ t
between_quotes [] = refl
between_quotes (b ∷ t) =
    ap (unquoted false) (append_assoc (doubled b) (flat_map doubled t) (39 ∷ []))
    ∙ read_doubled b (flat_map doubled t ++ 39 ∷ []) t (b == 39) refl (between_quotes t)

pub read_back : (t : List ℕ) → string_text (39 ∷ (flat_map doubled t ++ 39 ∷ [])) ≡ t
unfolding string_text
read_back t = between_quotes t

-- ---- what is left of UTF-8 is UTF-8

stays : (after : Bool) (b : ℕ) (z : List ℕ) → b ≢ 39 → unquoted after (b ∷ z) ≡ b ∷ unquoted false z
stays after b z h = ap (λ (t : Bool). cond (t && not after) (unquoted true z) (b ∷ unquoted false z)) (ne_eqb b 39 h)

all_stay : (xs ys : List ℕ) (after : Bool) → 0 < length xs → ((k : ℕ) → k < length xs → get_or xs k 0 ≢ 39) → unquoted after (xs ++ ys) ≡ xs ++ unquoted false ys
all_stay [] ys after some h = absurd (omega arith)
all_stay (x ∷ []) ys after some h = stays after x ys (h 0 (omega arith))
all_stay (x ∷ y ∷ xs) ys after some h =
    stays after x (y ∷ (xs ++ ys)) (h 0 (omega arith))
    ∙ ap (λ (z : List ℕ). x ∷ z) (all_stay (y ∷ xs) ys false (omega arith) (λ k lt. h (suc k) (omega arith)))

no_quote : (c : ℕ) → 128 ≤ c → (k : ℕ) → k < length (encode c) → get_or (encode c) k 0 ≢ 39
no_quote c big k lt e =
    let small : get_or (encode c) k 0 < 128 = omega (arith, e) in
    let is : c ≡ get_or (encode c) k 0 = inside_one c [] (encode c) k (sym (append-nil (encode c))) lt small in
    omega (arith, is, e, big)

one_char : (c : ℕ) (z : List ℕ) (after t : Bool) → nat_lt c 128 ≡ t → IsScalar c → ((a : Bool) → IsUtf8 (unquoted a z)) → IsUtf8 (unquoted after (encode c ++ z))
one_char c z after true e s h =
    let one : encode c ≡ c ∷ [] = encode_ascii c (ltb-true c 128 e) in
    let P : List ℕ → Type 0 = λ y. IsUtf8 (unquoted after (y ++ z)) in
    let Q : List ℕ → Type 0 = λ y. IsUtf8 y in
    let kept : IsUtf8 (c ∷ unquoted false z) = IsUtf8-append (c ∷ []) (unquoted false z) (subst Q one (IsUtf8-encode c s)) (h false) in
    subst P (sym one) (chosen (c == 39 && not after) kept)
  where
    chosen : (v : Bool) → IsUtf8 (c ∷ unquoted false z) → IsUtf8 (cond v (unquoted true z) (c ∷ unquoted false z))
    chosen true k = h true
    chosen false k = k
one_char c z after false e s h =
    let big : 128 ≤ c = ltb-false c 128 e in
    let Q : List ℕ → Type 0 = λ y. IsUtf8 y in
    let some : 0 < length (encode c) = omega (arith, length-encode c, (len_utf8_bounds c).0) in
    subst Q (sym (all_stay (encode c) z after some (no_quote c big))) (IsUtf8-append (encode c) (unquoted false z) (IsUtf8-encode c s) (h false))

all_chars : (cs : List ℕ) (after : Bool) → scalars cs ≡ true → IsUtf8 (unquoted after (encodes cs))
all_chars [] after e = IsUtf8-nil
all_chars (c ∷ cs) after e =
    one_char c (encodes cs) after (nat_lt c 128) refl (and_parts _ _ e).0 (λ a. all_chars cs a (and_parts _ _ e).1)

unquoted_utf8 : (z : List ℕ) (after : Bool) → IsUtf8 z → IsUtf8 (unquoted after z)
unquoted_utf8 z after u = let P : List ℕ → Type 0 = λ y. IsUtf8 (unquoted after y) in subst P u.1.1 (all_chars u.0 after u.1.0)

pub string_text_utf8 : (z : List ℕ) → IsUtf8 z → IsUtf8 (string_text z)
unfolding string_text
string_text_utf8 [] u = IsUtf8-nil
string_text_utf8 (b ∷ z) u = chosen (b == 39) refl
  where
    chosen : (v : Bool) → (b == 39) ≡ v → IsUtf8 (cond v (unquoted false z) [])
    chosen true e = unquoted_utf8 z false (IsUtf8-drop (b ∷ z) 1 u (IsCharBoundary-after_ascii (b ∷ z) 0 u (omega arith) (omega (arith, eqb-true b 39 e))))
    chosen false e = IsUtf8-nil
