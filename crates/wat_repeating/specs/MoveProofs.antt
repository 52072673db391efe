-- Proofs, for the laws of what goes on beside a state; no definition stands here.
use Rattle.std.proofs.Common.{◌≡◌, ◌⊎◌, inl, inr, ℕ, ◌≤◌, Option, Some, None, refl, sym, ◌∙◌, subst, arith}
use Rattle.wat_faults.specs.Faults.{Rose}
use Rattle.wat_disk.specs.Disk.{EachStop}
use Rattle.wat_disk.specs.declared.disk.Disk.{Ghosts}
use Rattle.wat_restore.specs.Restored.{Checkpoint}
use Rattle.wat_restore.specs.Safe.{IsSafe, Covers}
use Rattle.wat_images.specs.declared.refusal.PageRefusal.{PageRefusal}
use Rattle.wat_images.specs.declared.refusal.PageRefusal.TheVariants.{DiskFault}
use Rattle.wat_images.specs.Refusal.{IfPageLimit}
use Rattle.wat_cells.proofs.Then.{covers_then, goes_nowhere}
use Rattle.wat_objects.specs.Objects.{pages_of}
use Rattle.wat_repeating.specs.declared.on_pages.OnPages.{OnPages}
use Rattle.wat_repeating.specs.OnPages.{Moves, IsFull}

pub not_both : {A : Type 0} {o : Option A} {x : A} → o ≡ None → o ≡ Some x → ⊥
not_both {A} {o} {x} none some = let no : None ≡ Some x = sym none ∙ some in cc

cases_refused : (o : Option PageRefusal) → (o ≡ None) ⊎ ((r : PageRefusal) × (o ≡ Some r))
cases_refused None = inl refl
cases_refused (Some r) = inr (r, refl)

rose_then : (a b c : ℕ) → a ≤ b → Rose b c → Rose a c
rose_then a b c later rose = omega (arith, later, rose)

rose_later : (a b c : ℕ) → Rose a b → b ≤ c → Rose a c
rose_later a b c rose later = omega (arith, later, rose)

module _ {D : Type 0} {g : Ghosts D} where
  pub moves_still : (x : OnPages D g) → Moves x x
  moves_still x = record {
    goes = λ tells. goes_nowhere (g.told x.disk) (pages_of x.objects);
    safe = λ tells fine saved safe. safe;
    rests = λ refusal is. (refl, is);
    later = omega arith;
    fault = λ none some. absurd (not_both none some);
    limited = λ refusal none some. absurd (not_both none some);
  }

  still_going : (x y : OnPages D g) → Moves x y → y.refused ≡ None → x.refused ≡ None
  still_going x y one fine = elim (cases_refused x.refused) [
    | inl none ↦ none
    | inr some ↦ absurd (not_both fine (one.rests some.0 some.1).1)
  ]

  stops_on : (x y z : OnPages D g) → Moves x y → Moves y z → g.tells_content → (saved : Checkpoint) → IsSafe saved (g.told x.disk) → EachStop (g.told x.disk) (g.told z.disk) (Covers saved)
  stops_on x y z one two tells saved safe = elim (cases_refused y.refused) [
    | inl none ↦ covers_then saved (g.told x.disk) (g.told y.disk) (g.told z.disk) ((one.goes tells).stops saved safe) ((two.goes tells).stops saved (one.safe tells none saved safe))
    | inr some ↦ subst (λ (d : D). EachStop (g.told x.disk) (g.told d) (Covers saved)) (sym (two.rests some.0 some.1).0) ((one.goes tells).stops saved safe)
  ]

  fault_on : (x y z : OnPages D g) → Moves x y → Moves y z → x.refused ≡ None → z.refused ≡ Some DiskFault → Rose (g.told x.disk).faults (g.told z.disk).faults
  fault_on x y z one two none some = elim (cases_refused y.refused) [
    | inl fine ↦ rose_then (g.told x.disk).faults (g.told y.disk).faults (g.told z.disk).faults one.later (two.fault fine some)
    | inr bad ↦
        let same : Some bad.0 ≡ Some DiskFault = sym (two.rests bad.0 bad.1).1 ∙ some in
        rose_later (g.told x.disk).faults (g.told y.disk).faults (g.told z.disk).faults (one.fault none (bad.1 ∙ same)) two.later
  ]

  limited_on : (x y z : OnPages D g) → Moves x y → Moves y z → (refusal : PageRefusal) → x.refused ≡ None → z.refused ≡ Some refusal → IfPageLimit refusal IsFull
  limited_on x y z one two refusal none some = elim (cases_refused y.refused) [
    | inl fine ↦ two.limited refusal fine some
    | inr bad ↦
        let same : Some bad.0 ≡ Some refusal = sym (two.rests bad.0 bad.1).1 ∙ some in
        one.limited refusal none (bad.1 ∙ same)
  ]

  pub moves_on : (x y z : OnPages D g) → Moves x y → Moves y z → Moves x z
  moves_on x y z one two = record {
    goes = λ tells. record {
      others = λ file from. (two.goes tells).others file from ∙ (one.goes tells).others file from;
      limit = (two.goes tells).limit ∙ (one.goes tells).limit;
      stored = (two.goes tells).stored ∙ (one.goes tells).stored;
      header = (two.goes tells).header ∙ (one.goes tells).header;
      stops = stops_on x y z one two tells;
    };
    safe = λ tells fine saved safe. two.safe tells fine saved (one.safe tells (still_going y z two fine) saved safe);
    rests = λ refusal is. let a = one.rests refusal is in let b = two.rests refusal a.1 in (b.0 ∙ a.0, b.1);
    later = omega (arith, one.later, two.later);
    fault = fault_on x y z one two;
    limited = limited_on x y z one two;
  }
