-- What the bytes of frames stand for.
use Rattle.std.proofs.Common.{◌≡◌, ◌≢◌, ◌⊎◌, inl, inr, ℕ, zero, suc, ◌+◌, ◌<◌, ◌≤◌, true, ◌&&◌, nat_le, nat_lt, List, [], ◌∷◌, ◌++◌, length, take, drop, get_or, Option, Some, None, refl, sym, ◌∙◌, ap, subst, arith, length-append, length-drop, append_assoc}
use Rattle.std.proofs.lemmas.Bool.{cases_eq}
use Rattle.std.proofs.lemmas.Bool.Decides.{nat_tests}
use Rattle.std.proofs.lemmas.List.{take_at, drop_at, append-nil, get_or_at, length-take, length-take-le, take-append-le, drop-append-le, take-take, drop-take}
use Rattle.std.proofs.lemmas.List.Sums.{sum_by-append}
use Rattle.std.proofs.Math.Seq.{take-add}
use Rattle.std.proofs.lemmas.Nat.{from_be_bytes-to_be_bytes_4}
use Rattle.std.specs.Int.{w32, to_be_bytes, from_be_bytes}
use Rattle.wat_gate.specs.Bodies.{open_gate, body_of, bodies_behind, bodies, frames_len, end_of, IsWhole}

-- the bodies behind so many bytes are those of the rest
pub bodies_behind-drop : (n : ℕ) (content : List ℕ) → bodies_behind n content ≡ bodies (drop n content)
unfolding bodies
bodies_behind-drop zero content = refl
bodies_behind-drop (suc n) [] = refl
bodies_behind-drop (suc n) (byte ∷ rest) = bodies_behind-drop n rest

pub bodies-nil : bodies [] ≡ []
unfolding bodies
bodies-nil = refl

pub bodies-closed : (gate : ℕ) (rest : List ℕ) → gate ≢ open_gate → bodies (gate ∷ rest) ≡ []
unfolding bodies
bodies-closed gate rest shut = grind (arith, nat_tests)

pub bodies-open : (rest body : List ℕ) → body_of rest ≡ Some body → bodies (open_gate ∷ rest) ≡ body ∷ bodies (drop (4 + length body) rest)
unfolding bodies
bodies-open rest body is = rw is (ap (λ (l : List (List ℕ)). body ∷ l) (bodies_behind-drop (4 + length body) rest))

pub bodies-broken : (rest : List ℕ) → body_of rest ≡ None → bodies (open_gate ∷ rest) ≡ []
unfolding bodies
bodies-broken rest is = rw is refl

-- what is known of a body
pub record HasBody (behind body : List ℕ) : Type 0 where
  pub size : from_be_bytes w32 (take 4 behind) ≡ length body
  pub some : 1 ≤ length body
  pub short : length body ≤ 2000000
  pub room : 4 + length body < length behind
  pub is : body ≡ take (length body) (drop 4 behind)

fits : (size len : ℕ) → 1 ≤ size → size ≤ 2000000 → 4 + size < len → nat_le 1 size && nat_le size 2000000 && nat_lt (4 + size) len ≡ true
fits size len some short room = grind (arith, nat_tests)

pub body_of-has : (behind body : List ℕ) → HasBody behind body → body_of behind ≡ Some body
unfolding body_of
body_of-has behind body has =
    rw (has.size, fits (length body) (length behind) has.some has.short has.room) (ap (λ (l : List ℕ). Some l) (sym has.is))

fits_back : (size len : ℕ) → nat_le 1 size && nat_le size 2000000 && nat_lt (4 + size) len ≡ true → (1 ≤ size) × (size ≤ 2000000) × (4 + size < len)
fits_back size len test = (grind (arith, nat_tests), grind (arith, nat_tests), grind (arith, nat_tests))

pub has_body : (behind body : List ℕ) → body_of behind ≡ Some body → HasBody behind body
unfolding body_of
has_body behind body is =
    let size = from_be_bytes w32 (take 4 behind) in
    let test : nat_le 1 size && nat_le size 2000000 && nat_lt (4 + size) (length behind) ≡ true = grind arith in
    let known = fits_back size (length behind) test in
    let same : body ≡ take size (drop 4 behind) = grind arith in
    let long : length body ≡ size = ap length same ∙ length-take-le size (drop 4 behind) (omega (arith, length-drop 4 behind, known.2)) in
    record {
      size = sym long;
      some = omega arith;
      short = omega arith;
      room = omega arith;
      is = same ∙ ap (λ (n : ℕ). take n (drop 4 behind)) (sym long);
    }

-- Bytes that are frames of these bodies, whatever stands behind them.
pub record IsFront (front : List ℕ) (all : List (List ℕ)) : Type 0 where
  pub size : length front ≡ frames_len all
  pub goes_on : (tail : List ℕ) → 0 < length tail → bodies (front ++ tail) ≡ all ++ bodies tail

pub front-nil : IsFront [] []
front-nil = record { size = refl; goes_on = λ tail some. refl }

pub frames_len-cons : (body : List ℕ) (all : List (List ℕ)) → frames_len (body ∷ all) ≡ 5 + length body + frames_len all
frames_len-cons body all = omega (arith, sum_by-append (λ (b : List ℕ). 5 + length b) (body ∷ []) all)

pub frames_len-push : (all : List (List ℕ)) (body : List ℕ) → frames_len (all ++ body ∷ []) ≡ frames_len all + (5 + length body)
frames_len-push all body = omega (arith, sum_by-append (λ (b : List ℕ). 5 + length b) all (body ∷ []))

pub front-append : (front more : List ℕ) (all others : List (List ℕ)) → IsFront front all → IsFront more others → IsFront (front ++ more) (all ++ others)
front-append front more all others first second = record {
  size = omega (arith, first.size, second.size, length-append front more, sum_by-append (λ (body : List ℕ). 5 + length body) all others);
  goes_on = λ tail some.
      let rest : 0 < length (more ++ tail) = omega (arith, some, length-append more tail) in
      ap bodies (append_assoc front more tail) ∙ first.goes_on (more ++ tail) rest
      ∙ ap (λ (l : List (List ℕ)). all ++ l) (second.goes_on tail some) ∙ sym (append_assoc all others (bodies tail));
}

-- one frame, as it is written
pub front-one : (behind body : List ℕ) → length behind ≡ 4 + length body → ((tail : List ℕ) → 0 < length tail → HasBody (behind ++ tail) body) → IsFront (open_gate ∷ behind) (body ∷ [])
front-one behind body long has = record {
  size = omega (arith, long);
  goes_on = λ tail some.
      bodies-open (behind ++ tail) body (body_of-has (behind ++ tail) body (has tail some))
      ∙ ap (λ (l : List ℕ). body ∷ bodies l) (drop_at behind tail (4 + length body) long);
}

pub length-be : (n : ℕ) → length (to_be_bytes w32 n) ≡ 4
length-be n = refl

-- four bytes that tell its length, and a body, are read as that body
pub has_frame : (size body tail : List ℕ) → length size ≡ 4 → from_be_bytes w32 size ≡ length body → 1 ≤ length body → length body ≤ 2000000 → 0 < length tail → HasBody ((size ++ body) ++ tail) body
has_frame size body tail four told some short next =
    let same : (size ++ body) ++ tail ≡ size ++ (body ++ tail) = append_assoc size body tail in
    record {
      size = ap (λ (l : List ℕ). from_be_bytes w32 (take 4 l)) same ∙ ap (from_be_bytes w32) (take_at size (body ++ tail) 4 four) ∙ told;
      some = some;
      short = short;
      room = omega (arith, length-append (size ++ body) tail, length-append size body, four);
      is = sym (ap (λ (l : List ℕ). take (length body) (drop 4 l)) same ∙ ap (take (length body)) (drop_at size (body ++ tail) 4 four)
          ∙ take_at body tail (length body) refl);
    }

-- so are the bytes of a frame as it is written
pub has-written : (body tail : List ℕ) → 1 ≤ length body → length body ≤ 2000000 → 0 < length tail → HasBody ((to_be_bytes w32 (length body) ++ body) ++ tail) body
has-written body tail some short next =
    has_frame (to_be_bytes w32 (length body)) body tail (length-be (length body)) (from_be_bytes-to_be_bytes_4 (length body) (omega arith)) some short next

-- so are the bytes that were read, whatever follows them
pub has-read : (behind body tail : List ℕ) → HasBody behind body → 0 < length tail → HasBody (take (4 + length body) behind ++ tail) body
has-read behind body tail has next =
    let n = length body in
    let front = take (4 + n) behind in
    let long : length front ≡ 4 + n = length-take-le (4 + n) behind (omega (arith, has.room)) in
    record {
      size = ap (from_be_bytes w32) (take-append-le 4 front tail (omega (arith, long)) ∙ take-take 4 (4 + n) behind (omega arith)) ∙ has.size;
      some = has.some;
      short = has.short;
      room = omega (arith, length-append front tail, long);
      is = has.is ∙ sym (ap (take n) (drop-append-le 4 front tail (omega (arith, long))) ∙ take-append-le n (drop 4 front) tail (omega (arith, length-drop 4 front, long))
          ∙ ap (take n) (drop-take 4 n behind) ∙ take-take n n (drop 4 behind) (omega arith));
    }

pub either : (o : Option (List ℕ)) → (o ≡ None) ⊎ ((x : List ℕ) × (o ≡ Some x))
either None = inl refl
either (Some x) = inr (x, refl)

-- The frames of a log are a front: what stands behind them may be replaced.
pub front_of_within : (n : ℕ) (content : List ℕ) → length content ≤ n → IsFront (take (end_of content) content) (bodies content)
front_of_within n [] short = rw bodies-nil front-nil
front_of_within zero (gate ∷ rest) short = absurd (omega arith)
front_of_within (suc n) (gate ∷ rest) short = elim (cases_eq gate open_gate) [
  | inr shut ↦ rw (bodies-closed gate rest shut) front-nil
  | inl is_open ↦ elim (either (body_of rest)) [
    | inl none ↦ let shut : bodies (gate ∷ rest) ≡ [] = ap (λ (g : ℕ). bodies (g ∷ rest)) is_open ∙ bodies-broken rest none in rw shut front-nil
    | inr found ↦
        let body = found.0 in
        let has = has_body rest body found.1 in
        let next = drop (4 + length body) rest in
        let all : bodies (gate ∷ rest) ≡ body ∷ bodies next = ap (λ (g : ℕ). bodies (g ∷ rest)) is_open ∙ bodies-open rest body found.1 in
        let later = front_of_within n next (omega (arith, short, length-drop (4 + length body) rest)) in
        let one = front-one (take (4 + length body) rest) body (length-take-le (4 + length body) rest (omega (arith, has.room))) (λ tail some. has-read rest body tail has some) in
        let both = front-append (open_gate ∷ take (4 + length body) rest) (take (end_of next) next) (body ∷ []) (bodies next) one later in
        let count : frames_len (body ∷ bodies next) ≡ suc (4 + length body + end_of next) = omega (arith, frames_len-cons body (bodies next)) in
        let bytes : take (frames_len (body ∷ bodies next)) (gate ∷ rest) ≡ (open_gate ∷ take (4 + length body) rest) ++ take (end_of next) next =
        ap (λ (m : ℕ). take m (gate ∷ rest)) count ∙ (λ i. is_open i ∷ take-add (4 + length body) (end_of next) rest i) in
        subst (λ (l : List (List ℕ)). IsFront (take (frames_len l) (gate ∷ rest)) l) (sym all) (subst (λ (f : List ℕ). IsFront f (body ∷ bodies next)) (sym bytes) both)
  ]
]

pub front_of : (content : List ℕ) → IsFront (take (end_of content) content) (bodies content)
front_of content = front_of_within (length content) content (omega arith)

pub end_of-le : (content : List ℕ) → end_of content ≤ length content
end_of-le content = omega (arith, (front_of content).size, length-take (end_of content) content)

-- Frames, and a closed gate behind them, make a whole log of these bodies.
pub whole_at : (front : List ℕ) (all : List (List ℕ)) (gate : ℕ) (rest content : List ℕ) → IsFront front all → gate ≢ open_gate → content ≡ front ++ gate ∷ rest → (bodies content ≡ all) × IsWhole content
whole_at front all gate rest content is_front shut is =
    let same : bodies content ≡ all = ap bodies is ∙ is_front.goes_on (gate ∷ rest) (omega arith) ∙ ap (λ (l : List (List ℕ)). all ++ l) (bodies-closed gate rest shut) ∙ append-nil all in
    let place : end_of content ≡ length front = ap frames_len same ∙ sym is_front.size in
    let here : get_or content (end_of content) 0 ≡ gate = ap (λ (l : List ℕ). get_or l (end_of content) 0) is ∙ get_or_at front gate rest 0 (end_of content) (sym place) in (
      same,
      record {
        there = omega (arith, place, ap length is, length-append front (gate ∷ rest));
        closed = subst (λ (g : ℕ). g ≢ open_gate) (sym here) shut;
      },
    )
