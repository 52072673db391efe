-- A log that is made.
use Rattle.std.proofs.Common.{◌≡◌, ◌⊎◌, inl, inr, ⊎_elim, ℕ, ◌≤◌, List, [], ◌∷◌, length, refl, sym, ◌∙◌, subst, arith}
use Rattle.std.proofs.lemmas.Bool.{cases_order}
use Rattle.wat_schema.specs.Tables.{no_tables}
use Rattle.wat_disk.specs.Bytes.{written, Torn}
use Rattle.wat_disk.specs.Disk.{Image, Told, EachLeft, IsSynced, InFile, SameFiles, EachStop}
use Rattle.wat_disk.proofs.Writes.{torn_same}
use Rattle.wat_disk.proofs.Stops.{left_synced, weaker}
use Rattle.wat_commit_log.specs.Logged.{Restarts}
use Rattle.wat_commit_log.proofs.LogLaws.{restarts_empty}

-- no bytes
pub no_bytes : (bytes : List ℕ) → 0 ≡ length bytes → bytes ≡ []
no_bytes [] is = refl
no_bytes (byte ∷ rest) is = absurd (omega (arith, is))

-- one closed gate, written over no bytes
pub gate_written : (old new : List ℕ) → old ≡ [] → new ≡ written old 0 (0 ∷ []) → new ≡ 0 ∷ []
gate_written old new empty is = is ∙ (λ i. written (empty i) 0 (0 ∷ []))

-- a synced log of one closed gate restarts without tables, whatever a stop leaves
pub made_is_kept : (told : Told) (file : ℕ) → IsSynced told file → told.content file ≡ 0 ∷ [] → EachLeft told told.moment told.moment (λ image. Restarts (image file) no_tables)
made_is_kept told file synced is image left = subst (λ (log : List ℕ). Restarts log no_tables) (sym (left_synced told file image synced left ∙ is)) restarts_empty

-- one moment is up to another, or from it on
order : (t m : ℕ) → (t ≤ m) ⊎ (m ≤ t)
order t m = ⊎_elim (λ same. inl (omega arith)) (λ other. ⊎_elim (λ less. inl (omega arith)) (λ more. inr (omega arith)) other) (cases_order t m)

same_torn : (file : ℕ) (before after : Image) → SameFiles before after → InFile file (Torn 0 1) before after
same_torn file before after same = record {
  changed = subst (Torn 0 1 (before file)) (sym (same file)) (torn_same 0 1 (before file));
  others = λ other not_it. same other;
}

-- calls that change no file
pub torn_none : (file : ℕ) (old new : Told) → EachStop old new SameFiles → EachStop old new (InFile file (Torn 0 1))
torn_none file old new stops = weaker old new SameFiles (InFile file (Torn 0 1)) stops (λ before image was same. same_torn file before image same)

torn_then : (file : ℕ) (before image after : Image) → SameFiles before image → InFile file (Torn 0 1) image after → InFile file (Torn 0 1) before after
torn_then file before image after same torn = record {
  changed = subst (λ (log : List ℕ). Torn 0 1 log (after file)) (same file) torn.changed;
  others = λ other not_it. torn.others other not_it ∙ same other;
}

-- calls that change no file, and then a write of one byte that a stop may tear
pub torn_after : (file : ℕ) (old mid new : Told) → EachStop old mid SameFiles → EachStop mid new (InFile file (Torn 0 1)) → EachStop old new (InFile file (Torn 0 1))
torn_after file old mid new so_far call = record {
  later = omega (arith, so_far.later, call.later);
  past = λ t image to.
      let to_mid : t ≤ mid.moment = omega (arith, so_far.later, to) in
      (λ left. (so_far.past t image to).0 ((call.past t image to_mid).0 left), λ left. (call.past t image to_mid).1 ((so_far.past t image to).1 left));
  each = λ t image from to left. ⊎_elim
      (λ (to_mid : t ≤ mid.moment).
      let found = so_far.each t image from to_mid ((call.past t image to_mid).0 left) in
      (found.0, found.1, same_torn file found.0 image found.2))
      (λ (from_mid : mid.moment ≤ t).
      let last = call.each t image from_mid to left in
      let first = so_far.each mid.moment last.0 so_far.later (omega arith) last.1 in
      (first.0, first.1, torn_then file first.0 last.0 image first.2 last.2))
      (order t mid.moment);
}
