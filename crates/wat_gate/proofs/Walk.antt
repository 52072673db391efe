-- Going from gate to gate.
use Rattle.std.proofs.Common.{◌≡◌, ◌≢◌, ◌⊎◌, inl, inr, ⊎_elim, ℕ, zero, suc, ◌+◌, ◌-◌, ◌<◌, ◌≤◌, List, [], ◌∷◌, length, take, drop, get_or, Option, Some, None, refl, sym, ◌∙◌, ap, subst, arith, length-drop}
use Rattle.std.proofs.lemmas.Bool.{cases_eq, cases_lt}
use Rattle.std.proofs.lemmas.List.{drop-drop, length-take-le, drop_more, take_more, take_all, drop_all, get_or_past}
use Rattle.std.specs.Int.{w32, from_be_bytes}
use Rattle.std.specs.Prelude.{MatchOption, slice_range}
use Rattle.wat_gate.specs.declared.gate_log.GateRefusal.{GateRefusal}
use Rattle.wat_gate.specs.declared.gate_log.GateRefusal.TheVariants.{DiskFault, Damaged, Memory}
use Rattle.wat_gate.specs.Refusal.{IfDamaged}
use Rattle.wat_gate.specs.Bodies.{open_gate, body_of, bodies, frames_len, end_of, gate_place, IsWhole, IsBrokenAt, IsAtGate}
use Rattle.wat_gate.specs.Gates.{IsClosedGate, IsOpenGate, IsBrokenGate}
use Rattle.wat_gate.proofs.Frames.{has_body, body_of-has, bodies-nil, bodies-closed, bodies-open, bodies-broken, frames_len-cons, frames_len-push, either}

-- the first frame of a log that has one
pub record FirstFrame (content : List ℕ) : Type 0 where
  pub rest : List ℕ
  pub body : List ℕ
  pub is : content ≡ open_gate ∷ rest
  pub found : body_of rest ≡ Some body
  pub all : bodies content ≡ body ∷ bodies (drop (4 + length body) rest)

pub first_frame : (content : List ℕ) → 0 < length (bodies content) → FirstFrame content
first_frame [] some = absurd (omega (arith, ap length bodies-nil))
first_frame (gate ∷ rest) some = elim (cases_eq gate open_gate) [
  | inr shut ↦ absurd (omega (arith, ap length (bodies-closed gate rest shut)))
  | inl is_open ↦ elim (either (body_of rest)) [
    | inl none ↦ absurd (omega (arith, ap length (ap (λ (g : ℕ). bodies (g ∷ rest)) is_open ∙ bodies-broken rest none)))
    | inr found ↦ record {
      rest = rest;
      body = found.0;
      is = λ i. is_open i ∷ rest;
      found = found.1;
      all = ap (λ (g : ℕ). bodies (g ∷ rest)) is_open ∙ bodies-open rest found.0 found.1;
    }
  ]
]

-- from gate i on stand the bodies from i on
pub bodies_from : (i : ℕ) (content : List ℕ) → i ≤ length (bodies content) → bodies (drop (gate_place content i) content) ≡ drop i (bodies content)
bodies_from zero content within = refl
bodies_from (suc i) content within =
    let first = first_frame content (omega arith) in
    let next = drop (4 + length first.body) first.rest in
    let later = bodies_from i next (omega (arith, within, ap length first.all)) in
    let place : gate_place content (suc i) ≡ suc (4 + length first.body + gate_place next i) =
    ap (λ (l : List (List ℕ)). frames_len (take (suc i) l)) first.all ∙ omega (arith, frames_len-cons first.body (take i (bodies next))) in
    let bytes : drop (gate_place content (suc i)) content ≡ drop (gate_place next i) next =
    ap (λ (n : ℕ). drop n content) place ∙ ap (drop (suc (4 + length first.body + gate_place next i))) first.is
    ∙ sym (drop-drop (gate_place next i) (4 + length first.body) first.rest) in
    ap bodies bytes ∙ later ∙ sym (ap (drop (suc i)) first.all)

-- no frame stands behind a gate that tells this length
pub no_frame : (behind : List ℕ) (n : ℕ) → n ≡ from_be_bytes w32 (take 4 behind) → (1 ≤ n → n ≤ 2000000 → 4 + n < length behind → ⊥) → body_of behind ≡ None
no_frame behind n is bad = ⊎_elim (λ none. none)
    (λ (found : (x : List ℕ) × (body_of behind ≡ Some x)).
    let has = has_body behind found.0 found.1 in
    let same : n ≡ length found.0 = is ∙ has.size in
    absurd (bad (omega (arith, has.some, same)) (omega (arith, has.short, same)) (omega (arith, has.room, same))))
    (either (body_of behind))

pub short_frame : (behind : List ℕ) → length behind ≤ 4 → body_of behind ≡ None
short_frame behind short = ⊎_elim (λ none. none)
    (λ (found : (x : List ℕ) × (body_of behind ≡ Some x)). absurd (let room = (has_body behind found.0 found.1).room in omega (arith, room, short)))
    (either (body_of behind))

pub is_open : (content : List ℕ) (at n : ℕ) → get_or content at 0 ≡ open_gate → n ≡ from_be_bytes w32 (take 4 (drop (at + 1) content)) → 1 ≤ n → n ≤ 2000000 → at + 5 + n < length content → IsOpenGate content at (at + 5 + n)
is_open content at n gate is some short room =
    let behind = drop (at + 1) content in
    let body = take n (drop 4 behind) in
    let behind_len : length behind ≡ length content - (at + 1) = length-drop (at + 1) content in
    let long : length body ≡ n = length-take-le n (drop 4 behind) (omega (arith, length-drop 4 behind, behind_len)) in
    record {
      there = omega arith;
      opened = gate;
      body = body;
      frame = body_of-has behind body (record {
        size = sym is ∙ sym long;
        some = omega (arith, long);
        short = omega (arith, long);
        room = omega (arith, long, behind_len);
        is = ap (λ (m : ℕ). take m (drop 4 behind)) (sym long);
      });
      place = omega (arith, long);
    }

get_or_first : (all : List (List ℕ)) (i : ℕ) (body : List ℕ) (others : List (List ℕ)) → drop i all ≡ body ∷ others → get_or all i [] ≡ body
get_or_first [] zero body others is = absurd (omega (arith, ap length is))
get_or_first [] (suc i) body others is = absurd (omega (arith, ap length is))
get_or_first (first ∷ all) zero body others is = cc
get_or_first (first ∷ all) (suc i) body others is = get_or_first all i body others is

pub at_start : (content : List ℕ) → IsAtGate content 0 0
at_start content = record { count = omega arith; place = refl }

module _ (content : List ℕ) (at i : ℕ) (walk : IsAtGate content at i) where
  -- from here on stand the bodies that are left
  rest_is : bodies (drop at content) ≡ drop i (bodies content)
  rest_is = ap (λ (n : ℕ). bodies (drop n content)) walk.place ∙ bodies_from i content walk.count

  done : drop i (bodies content) ≡ [] → (i ≡ length (bodies content)) × (at ≡ end_of content)
  done none =
      let count : i ≡ length (bodies content) = omega (arith, walk.count, ap length none, length-drop i (bodies content)) in
      (count, walk.place ∙ ap frames_len (take_all i (bodies content) (omega (arith, count))))

  -- the bodies from an open gate on
  left_is : (next : ℕ) → (gate : IsOpenGate content at next) → drop i (bodies content) ≡ gate.body ∷ bodies (drop (4 + length gate.body) (drop (at + 1) content))
  left_is next gate =
      let here : drop at content ≡ open_gate ∷ drop (at + 1) content = drop_more content at 0 gate.there ∙ ap (λ (g : ℕ). g ∷ drop (at + 1) content) gate.opened in
      sym rest_is ∙ ap bodies here ∙ bodies-open (drop (at + 1) content) gate.body gate.frame

  -- the body that is read behind an open gate
  pub body_here : (next count : ℕ) → IsOpenGate content at next → count ≡ next - at - 5 → slice_range content (at + 5) (at + 5 + count) ≡ get_or (bodies content) i []
  body_here next count gate is =
      let has = has_body (drop (at + 1) content) gate.body gate.frame in
      let body : get_or (bodies content) i [] ≡ gate.body = get_or_first (bodies content) i gate.body _ (left_is next gate) in
      let size : at + 5 + count - (at + 5) ≡ length gate.body = omega (arith, gate.place, is) in
      let start : at + 5 ≡ at + 1 + 4 = omega arith in
      (λ k. take (size k) (drop (start k) content)) ∙ ap (take (length gate.body)) (sym (drop-drop 4 (at + 1) content)) ∙ sym has.is ∙ sym body

  pub at_next : (next : ℕ) → IsOpenGate content at next → IsAtGate content next (i + 1)
  at_next next gate =
      let left : drop i (bodies content) ≡ gate.body ∷ bodies (drop (4 + length gate.body) (drop (at + 1) content)) = left_is next gate in
      let more : i < length (bodies content) = omega (arith, ap length left, length-drop i (bodies content)) in
      let body : get_or (bodies content) i [] ≡ gate.body = get_or_first (bodies content) i gate.body _ left in
      record {
        count = omega arith;
        place = omega (arith, gate.place, walk.place, ap frames_len (take_more (bodies content) i [] more), frames_len-push (take i (bodies content)) (get_or (bodies content) i []), ap length body);
      }

  pub at_closed : IsClosedGate content at → IsWhole content × (i ≡ length (bodies content)) × (at ≡ end_of content)
  at_closed gate =
      let none : drop i (bodies content) ≡ [] = sym rest_is ∙ ap bodies (drop_more content at 0 gate.there) ∙ bodies-closed (get_or content at 0) (drop (at + 1) content) gate.closed in
      let all = done none in
      (record { there = omega (arith, all.1, gate.there); closed = subst (λ (n : ℕ). get_or content n 0 ≢ open_gate) all.1 gate.closed }, all.0, all.1)

  none_left : IsBrokenGate content at → drop i (bodies content) ≡ []
  none_left (inl past) = sym rest_is ∙ ap bodies (drop_all at content past) ∙ bodies-nil
  none_left (inr gate) =
      let there : at < length content = ⊎_elim (λ (inside : at < length content). inside) (λ (past : length content ≤ at). absurd (omega (arith, get_or_past content at 0 past, gate.0))) (cases_lt at (length content)) in
      sym rest_is ∙ ap bodies (drop_more content at 0 there) ∙ ap (λ (g : ℕ). bodies (g ∷ drop (at + 1) content)) gate.0 ∙ bodies-broken (drop (at + 1) content) gate.1

  pub broken_last : IsBrokenGate content at → i ≡ length (bodies content)
  broken_last gate = (done (none_left gate)).0

  pub at_broken : IsBrokenGate content at → IsBrokenAt content at
  at_broken (inl past) = record { place = (done (none_left (inl past))).1; broken = inl past }
  at_broken (inr gate) = record { place = (done (none_left (inr gate))).1; broken = inr gate.0 }

-- the next gate is in the file
pub next_within : (content : List ℕ) (at next : ℕ) → IsOpenGate content at next → next < length content
next_within content at next gate =
    let has = has_body (drop (at + 1) content) gate.body gate.frame in
    omega (arith, gate.place, gate.there, has.room, length-drop (at + 1) content)

-- before the last gate none is closed or broken
pub none_bad : (content : List ℕ) (at i : ℕ) → IsAtGate content at i → i < length (bodies content) → IsClosedGate content at ⊎ IsBrokenGate content at → ⊥
none_bad content at i walk before (inl gate) = omega (arith, before, (at_closed content at i walk gate).1)
none_bad content at i walk before (inr gate) = omega (arith, before, broken_last content at i walk gate)

pub at_some : (o : Option ℕ) (x : ℕ) (P : Type 0) (Q : ℕ → Type 0) → o ≡ Some x → MatchOption o P Q → Q x
at_some o x P Q is holds = subst (λ (v : Option ℕ). MatchOption v P Q) is holds

pub at_none : (o : Option ℕ) (P : Type 0) (Q : ℕ → Type 0) → ((x : ℕ) → o ≡ Some x → ⊥) → MatchOption o P Q → P
at_none None P Q not_some holds = holds
at_none (Some x) P Q not_some holds = absurd (not_some x refl)

pub if_damaged : (refusal : GateRefusal) (P Q : ℕ → Type 0) → ((at : ℕ) → P at → Q at) → IfDamaged refusal P → IfDamaged refusal Q
if_damaged DiskFault P Q says holds = tt
if_damaged (Damaged at) P Q says holds = says at holds
if_damaged Memory P Q says holds = tt

pub at_nothing : (o : Option ℕ) (P : Type 0) (Q : ℕ → Type 0) → o ≡ None → MatchOption o P Q → P
at_nothing o P Q is holds = subst (λ (v : Option ℕ). MatchOption v P Q) is holds
