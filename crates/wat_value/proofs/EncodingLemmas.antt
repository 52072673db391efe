-- No encoding begins another, so bytes spell a value or a row in one way only.
use Rattle.std.proofs.Common.{◌≡◌, ℕ, ℤ, ◌+◌, ◌<◌, ◌^◌, List, [], ◌∷◌, ◌++◌, length, take, drop, refl, sym, ◌∙◌, ap, arith, append_assoc, length-append}
use Rattle.std.proofs.Math.Seq.{take-append_seam, drop-append_seam}
use Rattle.std.proofs.Math.Facts.{Fits-of_z, Fits-lt-pow}
use Rattle.std.proofs.lemmas.Int.{to_z-of_z}
use Rattle.std.proofs.lemmas.List.Sums.{sum_by-cons}
use Rattle.std.specs.Prelude.{sum_by, FitsSigned}
use Rattle.std.specs.List.{flat_map, AllByRecursion}
use Rattle.std.specs.Int.{w64, cast_signed, cast_unsigned}
use Rattle.byteorder.specs.Endian.{big_number}
use Rattle.byteorder.specs.Numbers.{big_number-reads_back}
use Rattle.wat_value.specs.declared.value.Value.{Value}
use Rattle.wat_value.specs.declared.value.Value.TheVariants.{Null, Int, Text}
use Rattle.wat_value.specs.Encoding.{count_bytes, int_bytes, text_bytes, value_bytes, row_bytes, value_len, row_len, IsEncodableValue, IsEncodable}

-- fronts of one length are equal, and so is what follows them
pub append_same : {A : Type 0} (a b s t : List A) → length a ≡ length b → a ++ s ≡ b ++ t → (a ≡ b) × (s ≡ t)
append_same a b s t len e = (
  sym (take-append_seam a s) ∙ ap (take (length a)) e ∙ ap (λ n. take n (b ++ t)) len ∙ take-append_seam b t,
  sym (drop-append_seam a s) ∙ ap (drop (length a)) e ∙ ap (λ n. drop n (b ++ t)) len ∙ drop-append_seam b t,
)

pub length-count_bytes : (n : ℕ) → length (count_bytes n) ≡ 2
unfolding count_bytes
length-count_bytes n = refl

pub length-int_bytes : (n : ℤ) → length (int_bytes n) ≡ 8
unfolding int_bytes
length-int_bytes n = refl

-- a count is read back
pub count_bytes-read : (n : ℕ) (rest : List ℕ) → n < 2 ^ 16 → big_number 2 (count_bytes n ++ rest) ≡ n
unfolding count_bytes
count_bytes-read n rest h = big_number-reads_back 2 n rest h

pub count_bytes-cancel : (m n : ℕ) (s t : List ℕ) → m < 2 ^ 16 → n < 2 ^ 16 → count_bytes m ++ s ≡ count_bytes n ++ t → (m ≡ n) × (s ≡ t)
count_bytes-cancel m n s t hm hn e = (
  sym (count_bytes-read m s hm) ∙ ap (big_number 2) e ∙ count_bytes-read n t hn,
  (append_same (count_bytes m) (count_bytes n) s t (length-count_bytes m ∙ sym (length-count_bytes n)) e).1,
)

-- an integer's bits are read back
pub int_bytes-read : (n : ℤ) (rest : List ℕ) → FitsSigned w64 n → cast_signed w64 (big_number 8 (int_bytes n ++ rest)) ≡ n
unfolding int_bytes
int_bytes-read n rest h = ap (cast_signed w64) (big_number-reads_back 8 (cast_unsigned w64 n) rest (Fits-lt-pow (Fits-of_z h))) ∙ to_z-of_z w64 n h

pub int_bytes-cancel : (m n : ℤ) (s t : List ℕ) → FitsSigned w64 m → FitsSigned w64 n → int_bytes m ++ s ≡ int_bytes n ++ t → (m ≡ n) × (s ≡ t)
int_bytes-cancel m n s t hm hn e = (
  sym (int_bytes-read m s hm) ∙ ap (λ bs. cast_signed w64 (big_number 8 bs)) e ∙ int_bytes-read n t hn,
  (append_same (int_bytes m) (int_bytes n) s t (length-int_bytes m ∙ sym (length-int_bytes n)) e).1,
)

pub text_bytes-cancel : (a b s t : List ℕ) → length a < 2 ^ 16 → length b < 2 ^ 16 → text_bytes a ++ s ≡ text_bytes b ++ t → (a ≡ b) × (s ≡ t)
text_bytes-cancel a b s t ha hb e =
    let apart : count_bytes (length a) ++ (a ++ s) ≡ count_bytes (length b) ++ (b ++ t) =
    sym (append_assoc (count_bytes (length a)) a s) ∙ e ∙ append_assoc (count_bytes (length b)) b t in
    let counts = count_bytes-cancel (length a) (length b) (a ++ s) (b ++ t) ha hb apart in
    append_same a b s t counts.0 counts.1

-- lists with one front
pub tail_same : (m n : ℕ) (s t : List ℕ) → m ∷ s ≡ n ∷ t → s ≡ t
tail_same m n s t e = cc

tag_same : (m n : ℕ) (s t : List ℕ) → m ∷ s ≡ n ∷ t → m ≡ n
tag_same m n s t e = cc

-- values with different tags have different bytes
pub other_tag : {A : Type 0} (m n : ℕ) (s t : List ℕ) → (m ≡ n → ⊥) → m ∷ s ≡ n ∷ t → A
other_tag m n s t ne e = absurd (ne (tag_same m n s t e))

pub value_bytes-cancel : (v w : Value) (s t : List ℕ) → IsEncodableValue v → IsEncodableValue w → value_bytes v ++ s ≡ value_bytes w ++ t → (v ≡ w) × (s ≡ t)
value_bytes-cancel Null Null s t hv hw e = (refl, tail_same 0 0 s t e)
value_bytes-cancel Null (Int n) s t hv hw e = other_tag 0 1 _ _ (λ h. omega arith) e
value_bytes-cancel Null (Text b) s t hv hw e = other_tag 0 2 _ _ (λ h. omega arith) e
value_bytes-cancel (Int m) Null s t hv hw e = other_tag 1 0 _ _ (λ h. omega arith) e
value_bytes-cancel (Int m) (Int n) s t hv hw e =
    let same = int_bytes-cancel m n s t hv hw (tail_same 1 1 _ _ e) in
    (ap Int same.0, same.1)
value_bytes-cancel (Int m) (Text b) s t hv hw e = other_tag 1 2 _ _ (λ h. omega arith) e
value_bytes-cancel (Text a) Null s t hv hw e = other_tag 2 0 _ _ (λ h. omega arith) e
value_bytes-cancel (Text a) (Int n) s t hv hw e = other_tag 2 1 _ _ (λ h. omega arith) e
value_bytes-cancel (Text a) (Text b) s t hv hw e =
    let same = text_bytes-cancel a b s t hv.0 hw.0 (tail_same 2 2 _ _ e) in
    (ap Text same.0, same.1)

-- the first of several values in front
pub values_apart : (v : Value) (vs : List Value) (s : List ℕ) → flat_map value_bytes (v ∷ vs) ++ s ≡ value_bytes v ++ (flat_map value_bytes vs ++ s)
values_apart v vs s = append_assoc (value_bytes v) (flat_map value_bytes vs) s

pub values_cancel : (vs ws : List Value) (s t : List ℕ) → AllByRecursion IsEncodableValue vs → AllByRecursion IsEncodableValue ws → length vs ≡ length ws
    → flat_map value_bytes vs ++ s ≡ flat_map value_bytes ws ++ t → (vs ≡ ws) × (s ≡ t)
values_cancel [] [] s t hv hw len e = (refl, e)
values_cancel [] (w ∷ ws) s t hv hw len e = absurd (omega arith)
values_cancel (v ∷ vs) [] s t hv hw len e = absurd (omega arith)
values_cancel (v ∷ vs) (w ∷ ws) s t hv hw len e =
    let first = value_bytes-cancel v w (flat_map value_bytes vs ++ s) (flat_map value_bytes ws ++ t) hv.0 hw.0 (sym (values_apart v vs s) ∙ e ∙ values_apart w ws t) in
    let more = values_cancel vs ws s t hv.1 hw.1 (omega arith) first.1 in
    ((λ i. first.0 i ∷ more.0 i), more.1)

-- the count in front of a row's values
pub row_apart : (row : List Value) (s : List ℕ) → row_bytes row ++ s ≡ count_bytes (length row) ++ (flat_map value_bytes row ++ s)
row_apart row s = append_assoc (count_bytes (length row)) (flat_map value_bytes row) s

-- the bytes of a row, with anything behind them, are those of no other row
pub row_bytes-cancel : (r q : List Value) (s t : List ℕ) → IsEncodable r → IsEncodable q → row_bytes r ++ s ≡ row_bytes q ++ t → (r ≡ q) × (s ≡ t)
row_bytes-cancel r q s t hr hq e =
    let counts = count_bytes-cancel (length r) (length q) (flat_map value_bytes r ++ s) (flat_map value_bytes q ++ t) hr.count hq.count (sym (row_apart r s) ∙ e ∙ row_apart q t) in
    values_cancel r q s t hr.values hq.values counts.0 counts.1

-- how many bytes a value and a row take
pub length-value_bytes : (v : Value) → length (value_bytes v) ≡ value_len v
length-value_bytes Null = refl
length-value_bytes (Int n) = omega (arith, length-int_bytes n)
length-value_bytes (Text t) = omega (arith, length-count_bytes (length t), length-append (count_bytes (length t)) t)

pub length-values_bytes : (vs : List Value) → length (flat_map value_bytes vs) ≡ sum_by value_len vs
length-values_bytes [] = refl
length-values_bytes (v ∷ vs) = length-append (value_bytes v) (flat_map value_bytes vs) ∙ (λ i. length-value_bytes v i + length-values_bytes vs i) ∙ sym (sum_by-cons value_len v vs)

pub length-row_bytes : (row : List Value) → length (row_bytes row) ≡ row_len row
length-row_bytes row = omega (arith, length-append (count_bytes (length row)) (flat_map value_bytes row), length-count_bytes (length row), length-values_bytes row)
