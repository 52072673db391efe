-- What bytes that were read so far say of the rows that they can begin.
use Rattle.std.proofs.Common.{◌≡◌, ℕ, ℤ, ◌+◌, ◌<◌, ◌≤◌, ◌^◌, List, [], ◌∷◌, ◌++◌, length, take, drop, get_or, refl, sym, ◌∙◌, ap, subst, arith, append_assoc, length-append, suc, inl, inr, Option, Some, None, Result, Ok, Err}
use Rattle.std.proofs.Math.Seq.{take-add, drop-append_seam, take-append_seam}
use Rattle.std.proofs.lemmas.List.{take-append-drop, flat_map_more, get_or-take, get_or_past, append-nil, length-take, length-take-le, length-drop}
use Rattle.std.proofs.lemmas.Bool.{cases_lt}
use Rattle.std.proofs.lemmas.Nat.{be_bytes_2, be_bytes_8}
use Rattle.std.proofs.lemmas.Int.{of_z-to_z}
use Rattle.std.proofs.Math.Facts.{sfits_to_z, Fits-of_lt}
use Rattle.std.specs.Str.{IsUtf8}
use Rattle.std.specs.Prelude.{IfOk, IfSome, IfNone}
use Rattle.std.specs.declared.alloc.AllocError.{AllocError}
use Rattle.std.specs.List.{flat_map, AllByRecursion}
use Rattle.std.specs.Int.{w16, w64, cast_signed, from_be_bytes, to_be_bytes}
use Rattle.byteorder.specs.Endian.{big_number}
use Rattle.byteorder.specs.Numbers.{big_from-take, big_from-lt}
use Rattle.wat_value.specs.declared.value.Value.{Value}
use Rattle.wat_value.specs.declared.value.Value.TheVariants.{Null, Int, Text}
use Rattle.wat_value.specs.Encoding.{count_bytes, int_bytes, text_bytes, value_bytes, row_bytes, IsEncodableValue, IsEncodable, Spells, SpellsNone}
use Rattle.wat_value.specs.EncodingParts.{SpellsText, SpellsValue, SpellsNoText, SpellsNoValue}
use Rattle.wat_value.proofs.EncodingLemmas.{count_bytes-read, other_tag, tail_same, length-count_bytes, length-int_bytes, count_bytes-cancel, value_bytes-cancel, values_apart, row_apart, row_bytes-cancel}

-- a part of bytes from the front is bytes
below_take : (n : ℕ) (xs : List ℕ) → ((i : ℕ) → get_or xs i 0 < 256) → (i : ℕ) → get_or (take n xs) i 0 < 256
below_take n xs bytes i = elim (cases_lt i n) [
  | inl front ↦ rw (get_or-take n xs i 0 front) (bytes i)
  | inr past ↦
      let none : get_or (take n xs) i 0 ≡ 0 = get_or_past (take n xs) i 0 (omega (arith, length-take n xs)) in
      omega (arith, none)
]

-- both ways to read two, and eight, bytes
two_read : (xs : List ℕ) → big_number 2 xs ≡ from_be_bytes w16 xs
two_read xs = omega arith

eight_read : (xs : List ℕ) → big_number 8 xs ≡ from_be_bytes w64 xs
eight_read xs = omega arith

-- two bytes are the count that they read as
pub count_bytes-of : (xs : List ℕ) → 2 ≤ length xs → ((i : ℕ) → get_or xs i 0 < 256) → count_bytes (big_number 2 xs) ≡ take 2 xs
unfolding count_bytes
count_bytes-of xs long bytes =
    be_bytes_2 (take 2 xs) (big_number 2 xs) (length-take-le 2 xs long) (below_take 2 xs bytes) (sym (big_from-take 0 2 2 xs (omega arith)) ∙ two_read (take 2 xs))

-- eight bytes are the integer that they read as
pub int_bytes-of : (xs : List ℕ) → 8 ≤ length xs → ((i : ℕ) → get_or xs i 0 < 256) → int_bytes (cast_signed w64 (big_number 8 xs)) ≡ take 8 xs
unfolding int_bytes
int_bytes-of xs long bytes =
    ap (λ n. to_be_bytes w64 n) (of_z-to_z w64 (big_number 8 xs) (big_from-lt 0 8 xs bytes))
    ∙ be_bytes_8 (take 8 xs) (big_number 8 xs) (length-take-le 8 xs long) (below_take 8 xs bytes) (sym (big_from-take 0 8 8 xs (omega arith)) ∙ eight_read (take 8 xs))

-- fewer than two bytes begin with no count
pub no_count : (xs rest : List ℕ) (n : ℕ) → length xs < 2 → xs ≡ count_bytes n ++ rest → ⊥
no_count xs rest n short is = omega (arith, ap length is, length-append (count_bytes n) rest, length-count_bytes n)

-- what the bytes of a text read as
text_reads : (bytes text rest : List ℕ) → length text < 2 ^ 16 → bytes ≡ text_bytes text ++ rest → (big_number 2 bytes ≡ length text) × (drop 2 bytes ≡ text ++ rest)
text_reads bytes text rest short is =
    let apart = is ∙ append_assoc (count_bytes (length text)) text rest in (
      ap (big_number 2) apart ∙ count_bytes-read (length text) (text ++ rest) short,
      ap (drop 2) apart ∙ ap (λ n. drop n (count_bytes (length text) ++ (text ++ rest))) (sym (length-count_bytes (length text))) ∙ drop-append_seam (count_bytes (length text)) (text ++ rest),
    )

-- fewer than two bytes begin with no text
pub no_text_in : (bytes : List ℕ) → length bytes < 2 → SpellsNoText bytes
no_text_in bytes few text short utf8 rest is = no_count bytes (text ++ rest) (length text) few (is ∙ append_assoc (count_bytes (length text)) text rest)

-- fewer bytes than the length says begin with no text
pub no_text_cut : (bytes : List ℕ) → length (drop 2 bytes) < big_number 2 bytes → SpellsNoText bytes
no_text_cut bytes cut text short utf8 rest is =
    let reads = text_reads bytes text rest short is in
    omega (arith, cut, reads.0, ap length reads.1, length-append text rest)

-- bytes that are not UTF-8 are no text
pub no_text_of : (bytes : List ℕ) → (IsUtf8 (take (big_number 2 bytes) (drop 2 bytes)) → ⊥) → SpellsNoText bytes
no_text_of bytes bad text short utf8 rest is =
    let reads = text_reads bytes text rest short is in
    let same : take (big_number 2 bytes) (drop 2 bytes) ≡ text = (λ i. take (reads.0 i) (reads.1 i)) ∙ take-append_seam text rest in
    bad (subst IsUtf8 (sym same) utf8)

-- the text behind its length
pub text_spelled : (bytes text : List ℕ) (len : ℕ) → 2 ≤ length bytes → ((i : ℕ) → get_or bytes i 0 < 256) → len ≡ big_number 2 bytes → len ≤ length (drop 2 bytes)
    → text ≡ take len (drop 2 bytes) → IsUtf8 text → SpellsText bytes text (2 + len)
text_spelled bytes text len long small len_is fits is utf8 =
    let count : length text ≡ len = ap length is ∙ length-take-le len (drop 2 bytes) fits in
    let top : big_number 2 bytes < 256 ^ 2 = big_from-lt 0 2 bytes small in
    record {
      within = omega (arith, length-drop 2 bytes);
      spelled = take-add 2 len bytes ∙ (λ i. (sym (count_bytes-of bytes long small) ∙ ap count_bytes (sym (count ∙ len_is))) i ++ sym is i);
      short = omega (arith, count, len_is, top);
      utf8 = utf8;
    }

-- values behind their tags
pub null_spelled : (rest : List ℕ) → SpellsValue (0 ∷ rest) Null 1
null_spelled rest = record { within = omega arith; spelled = refl; encodable = tt }

pub int_spelled : (rest : List ℕ) → 8 ≤ length rest → ((i : ℕ) → get_or rest i 0 < 256) → SpellsValue (1 ∷ rest) (Int (cast_signed w64 (big_number 8 rest))) 9
int_spelled rest long small =
    record { within = omega arith; spelled = ap (λ bs. 1 ∷ bs) (sym (int_bytes-of rest long small)); encodable = sfits_to_z (Fits-of_lt (big_from-lt 0 8 rest small)) }

pub text_value_spelled : (rest text : List ℕ) (n : ℕ) → SpellsText rest text n → SpellsValue (2 ∷ rest) (Text text) (1 + n)
text_value_spelled rest text n s =
    let e : 1 + n ≡ suc n = omega arith in
    record { within = omega (arith, s.within); spelled = ap (λ k. take k (2 ∷ rest)) e ∙ ap (λ bs. 2 ∷ bs) s.spelled; encodable = (s.short, s.utf8) }

-- the same at bytes that are known by their tag and what follows it
pub int_spelled_at : (bytes rest : List ℕ) (tag : ℕ) (n : ℤ) → bytes ≡ tag ∷ rest → tag ≡ 1 → 8 ≤ length rest → ((i : ℕ) → get_or bytes i 0 < 256) → n ≡ cast_signed w64 (big_number 8 rest) → SpellsValue bytes (Int n) 9
int_spelled_at bytes rest tag n is tag_is long small n_is =
    let whole : bytes ≡ 1 ∷ rest = is ∙ ap (λ t. t ∷ rest) tag_is in
    let small' : (i : ℕ) → get_or rest i 0 < 256 = λ i. omega (arith, small (suc i), ap (λ bs. get_or bs (suc i) 0) whole) in
    subst (λ bs. SpellsValue bs (Int n) 9) (sym whole) (subst (λ m. SpellsValue (1 ∷ rest) (Int m) 9) (sym n_is) (int_spelled rest long small'))

-- what begins with no value
pub no_value_in : (bytes : List ℕ) → length bytes ≡ 0 → SpellsNoValue bytes
no_value_in bytes none value can rest is =
    let some : 0 < length (value_bytes value) = has_bytes value in
    omega (arith, ap length is, length-append (value_bytes value) rest)
  where
    has_bytes : (v : Value) → 0 < length (value_bytes v)
    has_bytes Null = omega arith
    has_bytes (Int n) = omega arith
    has_bytes (Text t) = omega arith

pub no_int_in : (rest : List ℕ) → length rest < 8 → SpellsNoValue (1 ∷ rest)
no_int_in rest few Null can more is = other_tag 1 0 _ _ (λ h. omega arith) is
no_int_in rest few (Int n) can more is = omega (arith, ap length (tail_same 1 1 _ _ is), length-append (int_bytes n) more, length-int_bytes n)
no_int_in rest few (Text t) can more is = other_tag 1 2 _ _ (λ h. omega arith) is

pub no_int_at : (bytes rest : List ℕ) (tag : ℕ) → bytes ≡ tag ∷ rest → tag ≡ 1 → length rest < 8 → SpellsNoValue bytes
no_int_at bytes rest tag is tag_is few = subst SpellsNoValue (sym (is ∙ ap (λ t. t ∷ rest) tag_is)) (no_int_in rest few)

pub no_text_value : (rest : List ℕ) → SpellsNoText rest → SpellsNoValue (2 ∷ rest)
no_text_value rest none Null can more is = other_tag 2 0 _ _ (λ h. omega arith) is
no_text_value rest none (Int n) can more is = other_tag 2 1 _ _ (λ h. omega arith) is
no_text_value rest none (Text t) can more is = none t can.0 can.1 more (tail_same 2 2 _ _ is)

pub no_such_tag : (tag : ℕ) (rest : List ℕ) → (tag ≡ 0 → ⊥) → (tag ≡ 1 → ⊥) → (tag ≡ 2 → ⊥) → SpellsNoValue (tag ∷ rest)
no_such_tag tag rest not_null not_int not_text Null can more is = other_tag tag 0 _ _ not_null is
no_such_tag tag rest not_null not_int not_text (Int n) can more is = other_tag tag 1 _ _ not_int is
no_such_tag tag rest not_null not_int not_text (Text t) can more is = other_tag tag 2 _ _ not_text is

-- where several values were read and no value comes next, no longer row of values is there
stuck : (vs ws : List Value) (d rest : List ℕ) → AllByRecursion IsEncodableValue vs → AllByRecursion IsEncodableValue ws → length vs < length ws
    → flat_map value_bytes vs ++ d ≡ flat_map value_bytes ws ++ rest → SpellsNoValue d → ⊥
stuck vs [] d rest hv hw more e none = absurd (omega arith)
stuck [] (w ∷ ws) d rest hv hw more e none = none w hw.0 (flat_map value_bytes ws ++ rest) (e ∙ values_apart w ws rest)
stuck (v ∷ vs) (w ∷ ws) d rest hv hw more e none =
    let first = value_bytes-cancel v w (flat_map value_bytes vs ++ d) (flat_map value_bytes ws ++ rest) hv.0 hw.0 (sym (values_apart v vs d) ∙ e ∙ values_apart w ws rest) in
    stuck vs ws d rest hv.1 hw.1 (omega arith) first.1 none

-- the same behind the count
pub no_row : (bytes : List ℕ) (vs : List Value) (at count : ℕ) → take at bytes ≡ count_bytes count ++ flat_map value_bytes vs
    → AllByRecursion IsEncodableValue vs → length vs < count → count < 2 ^ 16 → SpellsNoValue (drop at bytes) → SpellsNone bytes
no_row bytes vs at count is hv more small none row can rest e =
    let whole : count_bytes count ++ (flat_map value_bytes vs ++ drop at bytes) ≡ count_bytes (length row) ++ (flat_map value_bytes row ++ rest) =
    sym (append_assoc (count_bytes count) (flat_map value_bytes vs) (drop at bytes)) ∙ ap (λ f. f ++ drop at bytes) (sym is) ∙ take-append-drop at bytes ∙ e ∙ row_apart row rest in
    let counts = count_bytes-cancel count (length row) (flat_map value_bytes vs ++ drop at bytes) (flat_map value_bytes row ++ rest) small can.count whole in
    stuck vs row (drop at bytes) rest hv can.values (omega arith) counts.1 none

-- fewer than two bytes begin with no row
pub no_row_in : (bytes : List ℕ) → length bytes < 2 → SpellsNone bytes
no_row_in bytes short row can rest e = no_count bytes (flat_map value_bytes row ++ rest) (length row) short (e ∙ row_apart row rest)

-- one value more
pub one_more : (bytes : List ℕ) (vs : List Value) (v : Value) (at n count : ℕ) → take at bytes ≡ count_bytes count ++ flat_map value_bytes vs
    → take n (drop at bytes) ≡ value_bytes v → take (at + n) bytes ≡ count_bytes count ++ flat_map value_bytes (vs ++ v ∷ [])
one_more bytes vs v at n count is next =
    take-add at n bytes ∙ (λ i. is i ++ next i) ∙ flat_map_more value_bytes (count_bytes count) vs v

pub all_more : (vs : List Value) (v : Value) → AllByRecursion IsEncodableValue vs → IsEncodableValue v → AllByRecursion IsEncodableValue (vs ++ v ∷ [])
all_more [] v hv h = (h, tt)
all_more (w ∷ vs) v hv h = (hv.0, all_more vs v hv.1 h)

-- bytes that begin with a row's bytes spell that row and no other
pub spelled_once : (bytes : List ℕ) (row q : List Value) (rest : List ℕ) (n : ℕ) → IsEncodable row → bytes ≡ row_bytes row ++ rest → Spells bytes q n
    → (q ≡ row) × (n ≡ length (row_bytes row))
spelled_once bytes row q rest n can is s =
    let same = row_bytes-cancel q row (drop n bytes) rest s.encodable can (ap (λ f. f ++ drop n bytes) (sym s.spelled) ∙ take-append-drop n bytes ∙ is) in
    let len : length (take n bytes) ≡ n = length-take-le n bytes s.within in
    (same.0, sym len ∙ ap length s.spelled ∙ ap (λ r. length (row_bytes r)) same.0)

-- so what a decoder answers there is that row
pub reads_back : (bytes : List ℕ) (r : Result (Option (List Value × ℕ)) AllocError)
    → IfOk r (λ o. IfSome o (λ x. Spells bytes x.0 x.1)) → IfOk r (λ o. IfNone o (SpellsNone bytes))
    → (row : List Value) → IsEncodable row → (rest : List ℕ) → bytes ≡ row_bytes row ++ rest → IfOk r (λ o. o ≡ Some (row, length (row_bytes row)))
reads_back bytes (Ok (Some x)) some none row can rest is =
    let once = spelled_once bytes row x.0 rest x.1 can is some in
    λ i. Some (once.0 i, once.1 i)
reads_back bytes (Ok None) some none row can rest is = absurd (none row can rest is)
reads_back bytes (Err e) some none row can rest is = tt

-- the count of a row, with no value yet
pub count_spelled : (bytes : List ℕ) (count : ℕ) → 2 ≤ length bytes → ((i : ℕ) → get_or bytes i 0 < 256) → count ≡ big_number 2 bytes → take 2 bytes ≡ count_bytes count ++ flat_map value_bytes []
count_spelled bytes count long small is = sym (count_bytes-of bytes long small) ∙ ap count_bytes (sym is) ∙ sym (append-nil (count_bytes count))
