-- The bytes of a page of a chain.
use Rattle.std.proofs.Common.{◌≡◌, ℕ, ◌+◌, ◌*◌, ◌<◌, ◌≤◌, ◌^◌, List, ◌++◌, length, take, drop, get_or, refl, sym, ◌∙◌, ap, arith, append_assoc, length-drop}
use Rattle.std.proofs.lemmas.List.{take_at, drop_at, get_or-take, length-take-le}
use Rattle.std.specs.Int.{w16, w32, to_be_bytes, from_be_bytes}
use Rattle.wat_book.specs.Chains.{chain_front, IsChainPage}
use Rattle.wat_book.proofs.Chaining.{next_told, count_told}

-- the numbers that stand in a page's front, byte by byte
pub next_read : (page : List ℕ) (next count : ℕ) → next < 2 ^ 32 → take 16 page ≡ chain_front next count
    → ((get_or page 4 0 * 256 + get_or page 5 0) * 256 + get_or page 6 0) * 256 + get_or page 7 0 ≡ next
next_read page next count fits front =
    let a : get_or page 4 0 ≡ get_or (to_be_bytes w32 next) 0 0 = sym (get_or-take 16 page 4 0 (omega arith)) ∙ ap (λ l. get_or l 4 0) front in
    let b : get_or page 5 0 ≡ get_or (to_be_bytes w32 next) 1 0 = sym (get_or-take 16 page 5 0 (omega arith)) ∙ ap (λ l. get_or l 5 0) front in
    let c : get_or page 6 0 ≡ get_or (to_be_bytes w32 next) 2 0 = sym (get_or-take 16 page 6 0 (omega arith)) ∙ ap (λ l. get_or l 6 0) front in
    let d : get_or page 7 0 ≡ get_or (to_be_bytes w32 next) 3 0 = sym (get_or-take 16 page 7 0 (omega arith)) ∙ ap (λ l. get_or l 7 0) front in
    let whole : from_be_bytes w32 (to_be_bytes w32 next) ≡ next = sym (ap (λ l. from_be_bytes w32 (take 4 (drop 4 l))) front) ∙ next_told page next count fits front in
    omega (arith, a, b, c, d, whole)

pub count_read : (page : List ℕ) (next count : ℕ) → count < 2 ^ 16 → take 16 page ≡ chain_front next count → get_or page 8 0 * 256 + get_or page 9 0 ≡ count
count_read page next count fits front =
    let a : get_or page 8 0 ≡ get_or (to_be_bytes w16 count) 0 0 = sym (get_or-take 16 page 8 0 (omega arith)) ∙ ap (λ l. get_or l 8 0) front in
    let b : get_or page 9 0 ≡ get_or (to_be_bytes w16 count) 1 0 = sym (get_or-take 16 page 9 0 (omega arith)) ∙ ap (λ l. get_or l 9 0) front in
    let whole : from_be_bytes w16 (to_be_bytes w16 count) ≡ count = sym (ap (λ l. from_be_bytes w16 (take 2 (drop 8 l))) front) ∙ count_told page next count fits front in
    omega (arith, a, b, whole)

-- a page that is written: its front, and then its part
pub is_link : (zeros mid page part : List ℕ) (next : ℕ) (head : List ℕ) → head ≡ chain_front next (length part) → length part ≤ 4080 → next < 2 ^ 32 → length page ≡ 4096
    → mid ≡ take 0 zeros ++ head ++ drop (0 + length head) zeros → page ≡ take 16 mid ++ part ++ drop (16 + length part) mid → IsChainPage page next part
is_link zeros mid page part next head is short number whole one two =
    let front = chain_front next (length part) in
    let rest = drop (0 + length head) zeros in
    let first : take 16 mid ≡ front = ap (take 16) (one ∙ ap (λ h. h ++ rest) is) ∙ take_at front rest 16 refl in
    let all : page ≡ front ++ (part ++ drop (16 + length part) mid) = two ∙ ap (λ f. f ++ part ++ drop (16 + length part) mid) first ∙ append_assoc front part (drop (16 + length part) mid) in
    record {
      front = ap (take 16) all ∙ take_at front (part ++ drop (16 + length part) mid) 16 refl;
      payload = ap (λ l. take (length part) (drop 16 l)) all ∙ ap (take (length part)) (drop_at front (part ++ drop (16 + length part) mid) 16 refl) ∙ take_at part (drop (16 + length part) mid) (length part) refl;
      short = short;
      number = number;
      whole = whole;
    }

-- a page that is read: its front, and its part
pub reads_link : (page part : List ℕ) (next count : ℕ) → length page ≡ 4096 → take 16 page ≡ chain_front next count → next < 2 ^ 32 → count ≤ 4080 → part ≡ take count (drop 16 page) → IsChainPage page next part
reads_link page part next count whole front number short is = record {
  front = front ∙ ap (chain_front next) (sym long);
  payload = ap (λ n. take n (drop 16 page)) long ∙ sym is;
  short = omega (arith, long, short);
  number = number;
  whole = whole;
}
  where
    long : length part ≡ count
    long = ap length is ∙ length-take-le count (drop 16 page) (omega (arith, short, whole, length-drop 16 page))
