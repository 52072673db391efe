-- While the gate of the before file isn't there, no database stands; once it is, the new one does.
use Rattle.std.proofs.Common.{◌≡◌, ◌≢◌, ◌⊎◌, inl, inr, ⊎_elim, ℕ, ◌<◌, ◌^◌, List, [], ◌∷◌, refl, sym, ◌∙◌, subst, arith}
use Rattle.std.proofs.lemmas.Bool.{cases_eq}
use Rattle.wat_disk.specs.Bytes.{Torn}
use Rattle.wat_disk.specs.Disk.{Image, Told, IsSynced, InFile, SameFiles, SameOthers, EachStop}
use Rattle.wat_disk.proofs.Stops.{weaker, goes_on}
use Rattle.wat_gate.specs.Bodies.{open_gate, bodies, body_of, IsBrokenAt}
use Rattle.wat_create.specs.Made.{main_bytes, empty_log, IsUnmade, HasContent, KeepsBefore, KeepsOthers, MakesEither, LeavesOrMakes}
use Rattle.wat_create.proofs.Sound.{is_database}

broken_empty : IsBrokenAt [] 0
unfolding bodies
broken_empty = record { place = refl; broken = inl (omega arith) }

broken_open : IsBrokenAt (open_gate ∷ []) 0
unfolding bodies body_of
broken_open = record { place = refl; broken = inr refl }

unmade : (files : Image) → IsBrokenAt (files 1) 0 → IsUnmade files
unmade files broken = inl (inl (record { in_before = refl; broken = broken }))

pub unmade_empty : (files : Image) → files 1 ≡ [] → IsUnmade files
unmade_empty files is = unmade files (subst (λ (before : List ℕ). IsBrokenAt before 0) (sym is) broken_empty)

-- what a stop leaves of one byte, written into an empty file
one_byte : (new : List ℕ) → Torn 0 1 [] new → (new ≡ []) ⊎ ((byte : ℕ) × (new ≡ byte ∷ []))
one_byte [] torn = inl refl
one_byte (byte ∷ []) torn = inr (byte, refl)
one_byte (byte ∷ next ∷ rest) torn = absurd (omega (arith, torn.no_longer))

module _ (limit : ℕ) (small : limit < 2 ^ 32) (old files : Image) (main : files 0 ≡ main_bytes limit) (log : files 2 ≡ empty_log) where
  by_gate : (gate : ℕ) → files 1 ≡ gate ∷ [] → MakesEither limit old files
  by_gate gate is = ⊎_elim
      (λ (open_ : gate ≡ open_gate). inl (unmade files (subst (λ (before : List ℕ). IsBrokenAt before 0) (sym (is ∙ (λ i. open_ i ∷ []))) broken_open)))
      (λ (closed : gate ≢ open_gate). inr (is_database limit small files gate closed main is log))
      (cases_eq gate open_gate)

  pub gate_torn : Torn 0 1 [] (files 1) → MakesEither limit old files
  gate_torn torn = ⊎_elim (λ (none : files 1 ≡ []). inl (unmade_empty files none)) (λ (one : (byte : ℕ) × (files 1 ≡ byte ∷ [])). by_gate one.0 one.1) (one_byte (files 1) torn)

-- main and the log are written
module _ (limit : ℕ) (old mid : Told) (empty : old.content 1 ≡ []) (synced : IsSynced old 1) (first : EachStop old mid KeepsBefore) where
  pub content_stops : EachStop old mid (MakesEither limit)
  content_stops = weaker old mid KeepsBefore (MakesEither limit) first (λ before image left keeps. inl (unmade_empty image (keeps.before ∙ synced before left ∙ empty)))

  still_synced : KeepsBefore old.content mid.content → IsSynced mid 1
  still_synced kept image left =
      let found = first.each mid.moment image first.later (omega arith) left in
      found.2.before ∙ synced found.0 found.1 ∙ sym kept.before

  -- and then the gate
  module _ (small : limit < 2 ^ 32) (new : Told) (kept : KeepsBefore old.content mid.content) (content : HasContent (main_bytes limit) mid.content) (main : IsSynced mid 0) (log : IsSynced mid 2)
      (last : EachStop mid new (InFile 1 (Torn 0 1))) where
    gate_stops : EachStop mid new (MakesEither limit)
    gate_stops = weaker mid new (InFile 1 (Torn 0 1)) (MakesEither limit) last (λ before image left step.
        gate_torn limit small before image (step.others 0 (λ e. omega (arith, e)) ∙ main before left ∙ content.pages) (step.others 2 (λ e. omega (arith, e)) ∙ log before left ∙ content.log)
        (subst (λ (bytes : List ℕ). Torn 0 1 bytes (image 1)) (still_synced kept before left ∙ kept.before ∙ empty) step.changed))

    pub files_stops : EachStop old new (MakesEither limit)
    files_stops = goes_on old mid new (MakesEither limit) (MakesEither limit) content_stops gate_stops (λ before image after was now one two. two)

-- ---- the other files

keeps_then : (before image after : Image) → KeepsBefore before image → SameOthers 1 image after → KeepsOthers before after
keeps_then before image after keeps same file high = same file (λ e. omega (arith, e, high)) ∙ keeps.others file high

pub others_stops : (old mid new : Told) → EachStop old mid KeepsBefore → EachStop mid new (InFile 1 (Torn 0 1)) → EachStop old new KeepsOthers
others_stops old mid new first last =
    goes_on old mid new KeepsOthers (InFile 1 (Torn 0 1)) (weaker old mid KeepsBefore KeepsOthers first (λ before image left keeps. keeps.others)) last
    (λ before image after was now one two file high. two.others file (λ e. omega (arith, e, high)) ∙ one file high)

pub others_same : (old mid new : Image) → KeepsBefore old mid → SameOthers 1 mid new → KeepsOthers old new
others_same old mid new keeps same = keeps_then old mid new keeps same

-- ---- behind calls that change no file

pub made_behind : (limit : ℕ) (old mid new : Told) → EachStop old mid SameFiles → EachStop mid new (MakesEither limit) → EachStop old new (LeavesOrMakes limit)
made_behind limit old mid new first second =
    goes_on old mid new (LeavesOrMakes limit) (MakesEither limit) (weaker old mid SameFiles (LeavesOrMakes limit) first (λ before image left same. inl same)) second
    (λ before image after was now one two. inr two)

pub others_behind : (old mid new : Told) → EachStop old mid SameFiles → EachStop mid new KeepsOthers → EachStop old new KeepsOthers
others_behind old mid new first second =
    goes_on old mid new KeepsOthers KeepsOthers (weaker old mid SameFiles KeepsOthers first (λ before image left same file high. same file)) second
    (λ before image after was now one two file high. two file high ∙ one file high)

-- no file is changed
pub none_made : (limit : ℕ) (old new : Told) → EachStop old new SameFiles → EachStop old new (LeavesOrMakes limit)
none_made limit old new stops = weaker old new SameFiles (LeavesOrMakes limit) stops (λ before image left same. inl same)
