-- What a stop leaves of a log that is cleared.
use Rattle.std.proofs.Common.{◌≡◌, inl, inr, ℕ, ◌<◌, List, [], ◌∷◌, length, drop, refl, sym, ◌∙◌, ap, subst, arith}
use Rattle.std.proofs.lemmas.Bool.{cases_eq}
use Rattle.wat_disk.specs.Bytes.{written, Torn}
use Rattle.wat_disk.specs.Disk.{Told, IsSynced, InFile, SameFiles, EachStop}
use Rattle.wat_disk.proofs.Stops.{weaker}
use Rattle.wat_gate.specs.Bodies.{open_gate, bodies, IsWhole, KeepsOrClears}
use Rattle.wat_gate.proofs.Frames.{front-nil, whole_at}
use Rattle.wat_gate.proofs.Append.{written_at}
use Rattle.wat_gate.proofs.Walk.{first_frame}

-- the first gate is open or closed; behind it all stays
torn_first : (old c : List ℕ) → IsWhole old → 0 < length (bodies old) → Torn 0 1 old c → KeepsOrClears old c
torn_first old [] whole some torn = absurd (omega (arith, torn.no_shorter, whole.there))
torn_first old (gate ∷ rest) whole some torn = elim (cases_eq gate open_gate) [
  | inr shut ↦ let found = whole_at [] [] gate rest (gate ∷ rest) front-nil shut refl in record { whole = found.1; either = inr found.0 }
  | inl is_open ↦
      let first = first_frame old some in
      let behind : rest ≡ first.rest = torn.after ∙ ap (drop 1) first.is in
      let same : gate ∷ rest ≡ old = (λ i. is_open i ∷ behind i) ∙ sym first.is in
      record { whole = subst IsWhole (sym same) whole; either = inl (ap bodies same) }
]

pub is_cleared : (old new : List ℕ) → 0 < length (bodies old) → new ≡ written old 0 (0 ∷ []) → (bodies new ≡ []) × IsWhole new
is_cleared old new some is =
    let first = first_frame old some in
    whole_at [] [] 0 first.rest new front-nil (omega arith) (is ∙ written_at [] old (0 ∷ []) 0 (omega arith) refl ∙ ap (λ (l : List ℕ). 0 ∷ drop 1 l) first.is)

module _ (file : ℕ) (old new : Told) (synced : IsSynced old file) (whole : IsWhole (old.content file)) where
  abbrev content : List ℕ
  content = old.content file

  pub kept_stops : EachStop old new SameFiles → EachStop old new (InFile file KeepsOrClears)
  kept_stops stops = weaker old new SameFiles (InFile file KeepsOrClears) stops (λ before image was step. record {
    changed = record { whole = subst IsWhole (sym (step file ∙ synced before was)) whole; either = inl (ap bodies (step file)) };
    others = λ other not_it. step other;
  })

  pub clear_stops : 0 < length (bodies content) → EachStop old new (InFile file (Torn 0 1)) → EachStop old new (InFile file KeepsOrClears)
  clear_stops some stops = weaker old new (InFile file (Torn 0 1)) (InFile file KeepsOrClears) stops (λ before image was step. record {
    changed = subst (λ (l : List ℕ). KeepsOrClears l (image file)) (sym (synced before was))
        (torn_first content (image file) whole some (subst (λ (l : List ℕ). Torn 0 1 l (image file)) (synced before was) step.changed));
    others = step.others;
  })
