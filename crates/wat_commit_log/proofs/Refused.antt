-- What a refusal of the gate log, or of reading its frames, says of opening.
use Rattle.std.proofs.Common.{◌≡◌, ◌≢◌, ⊎_elim, ℕ, ◌+◌, ◌-◌, ◌^◌, ◌≤◌, min, List, [], length, get_or, Result, Err, refl, sym, ◌∙◌, ap, subst, arith}
use Rattle.wat_disk.specs.Disk.{Told}
use Rattle.wat_faults.specs.Faults.{Rose}
use Rattle.wat_gate.specs.declared.gate_log.GateRefusal.{GateRefusal}
use Rattle.wat_gate.specs.declared.gate_log.GateRefusal.TheVariants as gate
use Rattle.wat_gate.specs.Bodies.{IsWhole, IsBrokenAt, open_gate}
use Rattle.wat_gate.specs.Refusal.{IfDamaged}
use Rattle.wat_commit_log.specs.declared.opening.OpenWhy.{OpenWhy}
use Rattle.wat_commit_log.specs.declared.opening.OpenWhy.TheVariants.{NoDatabase, Damaged, DiskFault, Memory}
use Rattle.wat_commit_log.specs.Logged.{Restarts}
use Rattle.wat_commit_log.proofs.BodyLemmas.{no_restart}
use Rattle.wat_commit_log.specs.Opening.{IsNoTransactionAt, MayOpen}
use Rattle.wat_commit_log.specs.Reading.{MayRefuse}
use Rattle.wat_commit_log.specs.Opened.{why_from}

-- only a fault is handed on as one
pub fault_from : (refusal : GateRefusal) → why_from refusal ≡ DiskFault → refusal ≡ gate.DiskFault
fault_from gate.DiskFault e = refl
fault_from (gate.Damaged at) e = cc
fault_from gate.Memory e = cc

-- a fault is handed on as one
pub fault_to : {T U : Type 0} (refusal : GateRefusal) (answer : Result T GateRefusal) (why : OpenWhy) → Err refusal ≡ answer → why ≡ why_from refusal
    → (◌≡◌ {A = Result U OpenWhy} (Err why) (Err DiskFault) → ⊥) → answer ≡ Err gate.DiskFault → ⊥
fault_to refusal answer why is from well e =
    let same : refusal ≡ gate.DiskFault = cc in
    well (ap Err (from ∙ ap why_from same))

-- a gate log that is broken at a gate isn't whole
pub broken_not_whole : (content : List ℕ) (at : ℕ) → IsBrokenAt content at → IsWhole content → ⊥
broken_not_whole content at broken whole =
    ⊎_elim
    (λ (past : length content ≤ at). omega (arith, past, broken.place, whole.there))
    (λ (opened : get_or content at 0 ≡ open_gate). whole.closed (subst (λ (n : ℕ). get_or content n 0 ≡ open_gate) broken.place opened))
    broken.broken

-- a refusal of the gate log over a file that isn't empty
pub opening_refused : (tells : Type 0) (content : List ℕ) (rose : Type 0) (refusal : GateRefusal) → (refusal ≡ gate.DiskFault → rose) → (tells → content ≢ [])
    → (tells → IfDamaged refusal (IsBrokenAt content)) → MayOpen tells content rose (Err (why_from refusal))
opening_refused tells content rose gate.DiskFault fault some damaged = fault refl
opening_refused tells content rose (gate.Damaged at) fault some damaged = λ t. record { there = some t; none = λ tables restarts. broken_not_whole content at (damaged t) restarts.logged.whole; broken = λ broken. damaged t; frame = λ whole. absurd (broken_not_whole content at (damaged t) whole) }
opening_refused tells content rose gate.Memory fault some damaged = tt

-- a refusal of the gate log while its frames are read
pub reading_refused : (tells : Type 0) (content : List ℕ) (rose : Type 0) (refusal : GateRefusal) → (refusal ≡ gate.DiskFault → rose)
    → (tells → IfDamaged refusal (λ at. ⊥)) → MayRefuse tells content rose (why_from refusal)
reading_refused tells content rose gate.DiskFault fault damaged = fault refl
reading_refused tells content rose (gate.Damaged at) fault damaged = λ t. absurd (damaged t)
reading_refused tells content rose gate.Memory fault damaged = tt

-- a refusal of a later call
pub refused_later : (tells : Type 0) (content before : List ℕ) (rose since : Type 0) (why : OpenWhy) → content ≡ before → (rose → since) → MayRefuse tells content rose why → MayRefuse tells before since why
refused_later tells content before rose since NoDatabase same longer refused = refused
refused_later tells content before rose since (Damaged at) same longer refused = λ t. subst (λ (l : List ℕ). IsNoTransactionAt l at) same (refused t)
refused_later tells content before rose since DiskFault same longer refused = longer refused
refused_later tells content before rose since Memory same longer refused = tt

-- a refusal of the frames is one of the log
pub opening_of : (tells : Type 0) (content : List ℕ) (rose : Type 0) (why : OpenWhy) → (tells → content ≢ []) → (tells → IsWhole content) → MayRefuse tells content rose why → MayOpen tells content rose (Err why)
opening_of tells content rose NoDatabase some whole refused = absurd refused
opening_of tells content rose (Damaged at) some whole refused = λ t. record { there = some t; none = no_restart content ((refused t).frame + 1) (refused t).none; broken = λ broken. absurd (broken (whole t)); frame = λ all. refused t }
opening_of tells content rose DiskFault some whole refused = refused
opening_of tells content rose Memory some whole refused = tt

pub same_why : {T : Type 0} (a b : OpenWhy) → ◌≡◌ {A = Result T OpenWhy} (Err a) (Err b) → a ≡ b
same_why a b e = cc

-- a count that rose since a later moment rose since an earlier one
rises : (before mid now last : ℕ) → before ≤ mid → min (mid + 1) last ≤ now → min (before + 1) last ≤ now
rises before mid now last less rose = omega arith

pub rose_since : (old mid new : Told) → old.faults ≤ mid.faults → Rose mid.faults new.faults → Rose old.faults new.faults
rose_since old mid new less rose = rises old.faults mid.faults new.faults (2 ^ 64 - 1) less rose
