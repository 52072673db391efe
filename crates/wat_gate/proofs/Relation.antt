-- The relation of a gate log's bytes to its bodies, and the function that computes them.
use Rattle.std.proofs.Common.{◌≡◌, ◌≢◌, ℕ, suc, ◌+◌, ◌-◌, List, [], ◌∷◌, ◌++◌, length, take, drop, get_or, refl, sym, ◌∙◌, ap, subst, arith, length-append, length-drop, append_assoc, take-append-drop}
use Rattle.std.proofs.lemmas.List.{drop-drop, length-take-le, get_or-drop}
use Rattle.wat_gate.specs.Bodies.{open_gate, IsFrame, EndsLog, IsGateLog, bodies, frames_len, end_of, IsWhole}
use Rattle.wat_gate.proofs.Frames.{IsFront, front-nil, front-one, front-append, frames_len-cons, has_frame, has_body, whole_at}
use Rattle.wat_gate.proofs.Walk.{first_frame}

-- the frames of a log, and what stands behind them
record IsSplit (all : List (List ℕ)) (content : List ℕ) : Type 0 where
  pub front : List ℕ
  pub gate : ℕ
  pub rest : List ℕ
  pub is_front : IsFront front all
  pub closed : gate ≢ open_gate
  pub is : content ≡ front ++ gate ∷ rest

split : (all : List (List ℕ)) (content : List ℕ) → IsGateLog all content → IsSplit all content
split [] content ends = record { front = []; gate = ends.gate; rest = ends.rest; is_front = front-nil; closed = ends.closed; is = ends.is }
split (body ∷ all) content log =
    let frame = log.1 in
    let later = split all log.0 log.2 in
    let head = open_gate ∷ (frame.size ++ body) in
    let one : IsFront head (body ∷ []) = front-one (frame.size ++ body) body (omega (arith, length-append frame.size body, frame.four))
    (λ tail next. has_frame frame.size body tail frame.four frame.told frame.some frame.at_most next) in
    record {
      front = head ++ later.front;
      gate = later.gate;
      rest = later.rest;
      is_front = front-append head later.front (body ∷ []) all one later.is_front;
      closed = later.closed;
      is = frame.is ∙ ap (λ (l : List ℕ). open_gate ∷ (frame.size ++ body ++ l)) later.is ∙ sym (append_assoc head later.front (later.gate ∷ later.rest));
    }

-- a gate log is whole, and these are its bodies
pub log_bodies : (all : List (List ℕ)) (content : List ℕ) → IsGateLog all content → (bodies content ≡ all) × IsWhole content
log_bodies all content log =
    let found = split all content log in whole_at found.front all found.gate found.rest content found.is_front found.closed found.is

ends_log : (content : List ℕ) → bodies content ≡ [] → IsWhole content → EndsLog content
ends_log [] none whole = absurd (omega (arith, whole.there))
ends_log (gate ∷ rest) none whole =
    record { gate = gate; rest = rest; closed = subst (λ (n : ℕ). get_or (gate ∷ rest) n 0 ≢ open_gate) (ap frames_len none) whole.closed; is = refl }

-- a whole log is a gate log of its bodies
pub bodies_log : (all : List (List ℕ)) (content : List ℕ) → bodies content ≡ all → IsWhole content → IsGateLog all content
bodies_log [] content are whole = ends_log content are whole
bodies_log (body ∷ all) content are whole =
    let first = first_frame content (omega (arith, ap length are)) in
    let rest = first.rest in
    let n = length first.body in
    let has = has_body rest first.body first.found in
    let next = drop (4 + n) rest in
    let both : first.body ∷ bodies next ≡ body ∷ all = sym first.all ∙ are in
    let same : first.body ≡ body = cc in
    let later : bodies next ≡ all = cc in
    let behind : drop 4 rest ≡ first.body ++ next = sym (take-append-drop n (drop 4 rest)) ∙ (λ i. sym has.is i ++ drop-drop n 4 rest i) in
    let pieces : rest ≡ take 4 rest ++ first.body ++ next =
    sym (take-append-drop 4 rest) ∙ ap (λ (l : List ℕ). take 4 rest ++ l) behind ∙ sym (append_assoc (take 4 rest) first.body next) in
    let frame : IsFrame first.body next content = record {
      size = take 4 rest;
      is = first.is ∙ ap (λ (l : List ℕ). open_gate ∷ l) pieces;
      four = length-take-le 4 rest (omega (arith, has.room));
      told = has.size;
      some = has.some;
      at_most = has.short;
    } in
    let place : end_of content ≡ suc (4 + n) + end_of next = omega (arith, ap frames_len first.all, frames_len-cons first.body (bodies next)) in
    let long : length next ≡ length rest - (4 + n) = length-drop (4 + n) rest in
    let here : get_or content (end_of content) 0 ≡ get_or next (end_of next) 0 =
    (λ i. get_or (first.is i) (place i) 0) ∙ sym (get_or-drop (suc (4 + n)) (open_gate ∷ rest) (end_of next) 0) in
    let next_whole : IsWhole next = record {
      there = omega (arith, whole.there, place, ap length first.is, long, has.room);
      closed = subst (λ (g : ℕ). g ≢ open_gate) here whole.closed;
    } in
    (next, subst (λ (b : List ℕ). IsFrame b next content) same frame, bodies_log all next later next_whole)
