-- What a stop leaves of a log in each of the two writes of an `append`.
use Rattle.std.proofs.Common.{◌≡◌, inl, inr, ℕ, ◌+◌, ◌-◌, ◌<◌, ◌≤◌, min, List, [], ◌∷◌, ◌++◌, length, take, drop, get_or, sym, ◌∙◌, ap, subst, arith, length-append, append_assoc, take-append-drop}
use Rattle.std.proofs.lemmas.Bool.{cases_eq}
use Rattle.std.proofs.lemmas.List.{take_at, drop_at, take_more, drop_more, append-nil}
use Rattle.std.specs.Prelude.{replicate}
use Rattle.std.specs.Int.{w32, to_be_bytes}
use Rattle.wat_disk.specs.Bytes.{written, Torn}
use Rattle.wat_disk.specs.Disk.{Told, IsSynced, InFile, EachStop}
use Rattle.wat_disk.proofs.Stops.{weaker, goes_on_in_file}
use Rattle.wat_gate.specs.Bodies.{open_gate, bodies, end_of, IsWhole, KeepsOrAdds}
use Rattle.wat_gate.specs.Frame.{framed}
use Rattle.wat_gate.proofs.Frames.{front_of, front-append, front-one, has-written, whole_at, length-be}

-- a write within the old end, at its place
pub written_at : (front : List ℕ) (old bytes : List ℕ) (at : ℕ) → at ≤ length old → take at old ≡ front → written old at bytes ≡ front ++ (bytes ++ drop (at + length bytes) old)
written_at front old bytes at within is =
    let gap : at - length old ≡ 0 = omega arith in
    let rest = drop (at + length bytes) old in
    ap (λ (n : ℕ). take at old ++ replicate n 0 ++ bytes ++ rest) gap ∙ ap (λ (l : List ℕ). l ++ bytes ++ rest) (append-nil (take at old))
    ∙ ap (λ (l : List ℕ). l ++ bytes ++ rest) is ∙ append_assoc front bytes rest

-- what stands before a torn range stays
pub torn_front : (at n : ℕ) (old new : List ℕ) → at ≤ length old → Torn at n old new → new ≡ take at old ++ drop at new
torn_front at n old new within torn =
    let low : min at (length old) ≡ at = omega arith in
    let same : take at new ≡ take at old = ap (λ (m : ℕ). take m new) (sym low) ∙ torn.before in
    sym (take-append-drop at new) ∙ ap (λ (l : List ℕ). l ++ drop at new) same

pub length-framed : (body : List ℕ) → length (framed body) ≡ 5 + length body
length-framed body = omega (arith, length-append (to_be_bytes w32 (length body) ++ body) (0 ∷ []), length-append (to_be_bytes w32 (length body)) body, length-be (length body))

module _ (old body : List ℕ) (whole : IsWhole old) (some : 1 ≤ length body) (short : length body ≤ 2000000) where
  abbrev end : ℕ
  end = end_of old

  abbrev front : List ℕ
  front = take end old

  abbrev gate : ℕ
  gate = get_or old end 0

  abbrev frame : List ℕ
  frame = to_be_bytes w32 (length body) ++ body

  front_long : length front ≡ end
  front_long = (front_of old).size

  -- up to the gate and with it
  front_gate : take (end + 1) old ≡ front ++ gate ∷ []
  front_gate = take_more old end 0 whole.there

  -- the frame stands behind a gate, which is open or not
  pub staged : ℕ → List ℕ → List ℕ
  staged any tail = front ++ any ∷ (frame ++ 0 ∷ tail)

  pub either_gate : (any : ℕ) (tail c : List ℕ) → c ≡ staged any tail → KeepsOrAdds body old c
  unfolding staged
  either_gate any tail c is = elim (cases_eq any open_gate) [
    | inr shut ↦ let found = whole_at front (bodies old) any (frame ++ 0 ∷ tail) c (front_of old) shut is in record { whole = found.1; either = inl found.0 }
    | inl is_open ↦
        let one = front-one frame body (omega (arith, length-append (to_be_bytes w32 (length body)) body, length-be (length body))) (λ rest next. has-written body rest some short next) in
        let both = front-append front (open_gate ∷ frame) (bodies old) (body ∷ []) (front_of old) one in
        let bytes : c ≡ (front ++ open_gate ∷ frame) ++ 0 ∷ tail = is ∙ ap (λ (g : ℕ). front ++ g ∷ (frame ++ 0 ∷ tail)) is_open ∙ sym (append_assoc front (open_gate ∷ frame) (0 ∷ tail)) in
        let found = whole_at (front ++ open_gate ∷ frame) (bodies old ++ body ∷ []) 0 tail c both (omega arith) bytes in
        record { whole = found.1; either = inr found.0 }
  ]

  pub opened : (tail c : List ℕ) → c ≡ staged open_gate tail → (bodies c ≡ bodies old ++ body ∷ []) × IsWhole c
  unfolding staged
  opened tail c is =
      let one = front-one frame body (omega (arith, length-append (to_be_bytes w32 (length body)) body, length-be (length body))) (λ rest next. has-written body rest some short next) in
      let both = front-append front (open_gate ∷ frame) (bodies old) (body ∷ []) (front_of old) one in
      whole_at (front ++ open_gate ∷ frame) (bodies old ++ body ∷ []) 0 tail c both (omega arith) (is ∙ sym (append_assoc front (open_gate ∷ frame) (0 ∷ tail)))

  -- the first write is behind the closed gate
  pub torn_behind : (n : ℕ) (c : List ℕ) → Torn (end + 1) n old c → KeepsOrAdds body old c
  torn_behind n c torn =
      let within : end + 1 ≤ length old = omega (arith, whole.there) in
      let bytes : c ≡ front ++ gate ∷ drop (end + 1) c =
      torn_front (end + 1) n old c within torn ∙ ap (λ (l : List ℕ). l ++ drop (end + 1) c) front_gate ∙ append_assoc front (gate ∷ []) (drop (end + 1) c) in
      let found = whole_at front (bodies old) gate (drop (end + 1) c) c (front_of old) whole.closed bytes in
      record { whole = found.1; either = inl found.0 }

  pub tail_of : List ℕ
  tail_of = drop (end + 1 + length (framed body)) old

  pub written_behind : written old (end + 1) (framed body) ≡ staged gate tail_of
  unfolding staged tail_of
  written_behind =
      let within : end + 1 ≤ length old = omega (arith, whole.there) in
      written_at (front ++ gate ∷ []) old (framed body) (end + 1) within front_gate
      ∙ append_assoc front (gate ∷ []) (framed body ++ tail_of)
      ∙ ap (λ (l : List ℕ). front ++ gate ∷ l) (append_assoc frame (0 ∷ []) tail_of)

  -- the second is of the gate alone
  pub torn_gate : (tail c : List ℕ) → Torn end 1 (staged gate tail) c → KeepsOrAdds body old c
  unfolding staged
  torn_gate tail c torn =
      let long : length (staged gate tail) ≡ end + 1 + length (frame ++ 0 ∷ tail) = omega (arith, length-append front (gate ∷ (frame ++ 0 ∷ tail)), front_long) in
      let any = get_or c end 0 in
      let start : c ≡ front ++ drop end c = torn_front end 1 (staged gate tail) c (omega (arith, long)) torn ∙ ap (λ (l : List ℕ). l ++ drop end c) (take_at front (gate ∷ (frame ++ 0 ∷ tail)) end front_long) in
      let behind : drop (end + 1) c ≡ frame ++ 0 ∷ tail = torn.after
      ∙ ap (drop (end + 1)) (sym (append_assoc front (gate ∷ []) (frame ++ 0 ∷ tail)))
      ∙ drop_at (front ++ gate ∷ []) (frame ++ 0 ∷ tail) (end + 1) (omega (arith, length-append front (gate ∷ []), front_long)) in
      let here : drop end c ≡ any ∷ (frame ++ 0 ∷ tail) = drop_more c end 0 (omega (arith, torn.no_shorter, long)) ∙ ap (λ (l : List ℕ). any ∷ l) behind in
      either_gate any tail c (start ∙ ap (λ (l : List ℕ). front ++ l) here)

  pub written_gate : (tail : List ℕ) → written (staged gate tail) end (open_gate ∷ []) ≡ staged open_gate tail
  unfolding staged
  written_gate tail =
      let long : length (staged gate tail) ≡ end + 1 + length (frame ++ 0 ∷ tail) = omega (arith, length-append front (gate ∷ (frame ++ 0 ∷ tail)), front_long) in
      written_at front (staged gate tail) (open_gate ∷ []) end (omega (arith, long)) (take_at front (gate ∷ (frame ++ 0 ∷ tail)) end front_long)
      ∙ ap (λ (l : List ℕ). front ++ open_gate ∷ l)
      (ap (drop (end + 1)) (sym (append_assoc front (gate ∷ []) (frame ++ 0 ∷ tail)))
      ∙ drop_at (front ++ gate ∷ []) (frame ++ 0 ∷ tail) (end + 1) (omega (arith, length-append front (gate ∷ []), front_long)))

-- An `append` from old, where its file is synced: what a stop may leave during each write.
module _ (file at : ℕ) (body bytes : List ℕ) (old mid new : Told) (synced : IsSynced old file) (whole : IsWhole (old.content file)) (place : at ≡ end_of (old.content file)) (some : 0 < length body) (short : length body ≤ 2000000) (is_framed : bytes ≡ framed body) where
  abbrev content : List ℕ
  content = old.content file

  pub first_stops : EachStop old mid (InFile file (Torn (at + 1) (length bytes))) → EachStop old mid (InFile file (KeepsOrAdds body))
  first_stops stops = weaker old mid (InFile file (Torn (at + 1) (length bytes))) (InFile file (KeepsOrAdds body)) stops (λ before image was step.
      record {
        changed =
            subst (λ (l : List ℕ). KeepsOrAdds body l (image file)) (sym (synced before was))
            (torn_behind content body whole (omega arith) short (length bytes) (image file)
            (subst (λ (l : List ℕ). Torn (end_of content + 1) (length bytes) l (image file)) (synced before was) (subst (λ (n : ℕ). Torn (n + 1) (length bytes) (before file) (image file)) place step.changed)));
        others = step.others;
      })

  -- the frame behind the closed gate
  pub is_staged : mid.content file ≡ written content (at + 1) bytes → mid.content file ≡ staged content body whole (omega arith) short (get_or content (end_of content) 0) (tail_of content body whole (omega arith) short)
  is_staged is = is ∙ (λ i. written content (place i + 1) (is_framed i)) ∙ written_behind content body whole (omega arith) short

  pub both_stops : EachStop old mid (InFile file (Torn (at + 1) (length bytes))) → mid.content file ≡ written content (at + 1) bytes → IsSynced mid file
      → EachStop mid new (InFile file (Torn at 1)) → EachStop old new (InFile file (KeepsOrAdds body))
  both_stops stops is mid_synced then = goes_on_in_file file old mid new (KeepsOrAdds body) (Torn at 1) (first_stops stops) then (λ before image after was now first second.
      subst (λ (l : List ℕ). KeepsOrAdds body l after) (sym (synced before was))
      (torn_gate content body whole (omega arith) short (tail_of content body whole (omega arith) short) after
      (subst (λ (l : List ℕ). Torn (end_of content) 1 l after) (mid_synced image now ∙ is_staged is) (subst (λ (n : ℕ). Torn n 1 (image file) after) place second))))

module _ (file at : ℕ) (body bytes : List ℕ) (old mid new : Told) (whole : IsWhole (old.content file)) (place : at ≡ end_of (old.content file)) (some : 0 < length body) (short : length body ≤ 2000000) (is_framed : bytes ≡ framed body) where
  abbrev before : List ℕ
  before = old.content file

  pub is_added : mid.content file ≡ written before (at + 1) bytes → new.content file ≡ written (mid.content file) at (open_gate ∷ []) → (bodies (new.content file) ≡ bodies before ++ body ∷ []) × IsWhole (new.content file)
  is_added first second =
      let tail = tail_of before body whole (omega arith) short in
      let first_is = first ∙ (λ i. written before (place i + 1) (is_framed i)) ∙ written_behind before body whole (omega arith) short in
      opened before body whole (omega arith) short tail (new.content file)
      (second ∙ (λ i. written (first_is i) (place i) (open_gate ∷ [])) ∙ written_gate before body whole (omega arith) short tail)
