-- The parts of a payload.
use Rattle.std.proofs.Common.{◌≡◌, ◌⊎◌, inl, inr, ⊎_elim, ℕ, ◌+◌, ◌-◌, ◌*◌, ◌<◌, ◌≤◌, List, [], ◌++◌, length, take, drop, sym, ap, ◌∙◌, arith, length-drop}
use Rattle.std.proofs.Math.Seq.{take-length, drop-length}
use Rattle.std.proofs.lemmas.Bool.{cases_lt}
use Rattle.std.proofs.lemmas.List.{take-append-drop, length-take-le, take_all, take_rest}

cases_le : (a b : ℕ) → (a ≤ b) ⊎ (b < a)
cases_le a b = ⊎_elim (λ (less : b < a). inr less) (λ more. inl (omega (arith, more))) (cases_lt b a)

short_whole : (n : ℕ) (xs : List ℕ) → length xs ≤ n → take n xs ≡ xs
short_whole n xs short = take_all n xs short

-- ---- the first part of a payload, and the others

pub front_and_back : (payload front back : List ℕ) → front ≡ take 4080 (drop (4080 * 0) payload) → back ≡ drop (length front) payload → payload ≡ front ++ back
front_and_back payload front back is rest =
    sym (take-append-drop (length front) payload) ∙ ap (λ l. l ++ drop (length front) payload) (by (cases_le (length payload) 4080)) ∙ ap (λ l. front ++ l) (sym rest)
  where
    by : (length payload ≤ 4080) ⊎ (4080 < length payload) → take (length front) payload ≡ front
    by (inl short) =
        let all : front ≡ payload = is ∙ short_whole 4080 payload short in
        ap (λ l. take (length l) payload) all ∙ take-length payload ∙ sym all
    by (inr long) =
        let size : length front ≡ 4080 = ap length is ∙ length-take-le 4080 payload (omega (arith, long)) in
        ap (λ n. take n payload) size ∙ sym is

-- the first part is full, or there is no other
pub full_or_none : (payload front back : List ℕ) → front ≡ take 4080 (drop (4080 * 0) payload) → back ≡ drop (length front) payload → (4080 + length back ≡ length payload) ⊎ (back ≡ [])
full_or_none payload front back is rest = by (cases_le (length payload) 4080)
  where
    by : (length payload ≤ 4080) ⊎ (4080 < length payload) → (4080 + length back ≡ length payload) ⊎ (back ≡ [])
    by (inl short) =
        let all : front ≡ payload = is ∙ short_whole 4080 payload short in
        inr (rest ∙ ap (λ l. drop (length l) payload) all ∙ drop-length payload)
    by (inr long) =
        let size : length front ≡ 4080 = ap length is ∙ length-take-le 4080 payload (omega (arith, long)) in
        inl (let e = ap length rest ∙ length-drop (length front) payload in omega (arith, e, size, long))

-- a part of at most 4,080 bytes, of as many as there are
pub part_is : (payload : List ℕ) (n m : ℕ) → m ≤ 4080 → (m < 4080 → length payload - n ≤ m) → take m (take (length payload - n) (drop n payload)) ≡ take 4080 (drop n payload)
part_is payload n m few all = ap (take m) (take_rest payload n) ∙ by (cases_le 4080 m)
  where
    by : (4080 ≤ m) ⊎ (m < 4080) → take m (drop n payload) ≡ take 4080 (drop n payload)
    by (inl full) = let same : m ≡ 4080 = omega (arith, full, few) in ap (λ k. take k (drop n payload)) same
    by (inr less) =
        let rest = all less in
        let size = length-drop n payload in
        take_all m (drop n payload) (omega (arith, size, rest)) ∙ sym (take_all 4080 (drop n payload) (omega (arith, size, rest, less)))

pub back_least : (payload front back : List ℕ) → back ≡ drop (length front) payload → 0 < length payload → front ≡ take 4080 (drop (4080 * 0) payload) → 4080 + length back ≤ length payload + 4079
back_least payload front back rest some is =
    ⊎_elim
    (λ (full : 4080 + length back ≡ length payload). omega (arith, full))
    (λ (none : back ≡ []). let size = ap length none in omega (arith, size, some))
    (full_or_none payload front back is rest)

-- what the other parts want, and what all do
pub more_needed : (payload front back : List ℕ) (behind free unused limit count now : ℕ) → (4080 + length back ≡ length payload) ⊎ (back ≡ []) → unused ≡ free + behind → now ≡ count → 4080 * (unused + (limit - now)) < length back → 4080 * (1 + behind + free + (limit - count)) < length payload
more_needed payload front back behind free unused limit count now (inl full) is same want =
    let left : limit - now ≡ limit - count = ap (λ n. limit - n) same in omega (arith, full, is, want, left)
more_needed payload front back behind free unused limit count now (inr none) is same want = absurd (let size = ap length none in omega (arith, want, size))
