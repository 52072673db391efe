-- What a disk that tells no content tells of one call.
use Rattle.std.proofs.Common.{◌≡◌, ℕ, ◌+◌, ◌-◌, ◌^◌, ◌<◌, ◌≤◌, min, List, [], Result, Err, refl, arith}
use Rattle.wat_faults.specs.Faults.{counted}
use Rattle.wat_disk.specs.Disk.{Image, Told, EachStop, Counts}
use Rattle.wat_disk.specs.declared.disk.DiskError.{DiskError}
use Rattle.wat_disk.specs.declared.disk.DiskError.TheVariants.{Failed}

abbrev pub tell : ℕ → ℕ → Told
tell moment faults = record { content = λ file. []; left_at = λ t image. ⊥; moment = moment; faults = faults }

pub stops : (m n f g : ℕ) {Step : Image → Image → Type 0} → m ≤ n → EachStop (tell m f) (tell n g) Step
stops m n f g later = record {
  later = later;
  past = λ t image to. (λ left. left, λ left. left);
  each = λ t image from to left. absurd left;
}

pub failed : {T : Type 0} (m n f g : ℕ) → n ≡ min (m + 1) (2 ^ 64 - 1) → g ≡ counted f → f ≤ g → Counts {T = T} (tell m f) (tell n g) (Err Failed)
failed m n f g moment faults never_falls = record {
  moment = moment;
  never_falls = never_falls;
  failed = λ is. faults;
  kept = λ not. absurd (not refl);
  last = λ late. (refl, λ file. refl);
}

pub answered : {T : Type 0} (m n f g : ℕ) (result : Result T DiskError) → ¬ (result ≡ Err Failed) → n ≡ min (m + 1) (2 ^ 64 - 1) → g ≡ f → m + 1 < 2 ^ 64 → Counts (tell m f) (tell n g) result
answered m n f g result not moment faults in_time = record {
  moment = moment;
  never_falls = omega (arith, faults);
  failed = λ is. absurd (not is);
  kept = λ other. faults;
  last = λ late. absurd (omega (arith, late, in_time));
}
