-- What a refusal of the gate log says of opening the pages.
use Rattle.std.proofs.Common.{◌≡◌, ℕ, Result, Err, refl, ◌∙◌, ap}
use Rattle.wat_gate.specs.declared.gate_log.GateRefusal.{GateRefusal}
use Rattle.wat_gate.specs.declared.gate_log.GateRefusal.TheVariants as gate
use Rattle.wat_gate.specs.Refusal as log
use Rattle.wat_images.specs.declared.refusal.PageRefusal.{PageRefusal}
use Rattle.wat_images.specs.declared.refusal.PageRefusal.TheVariants.{DiskFault}
use Rattle.wat_images.specs.Refusal.{IfDamaged, IfPageLimit, page_refusal}

-- only a fault is handed on as one
pub fault_from : (refusal : GateRefusal) → page_refusal refusal ≡ DiskFault → refusal ≡ gate.DiskFault
fault_from gate.DiskFault e = refl
fault_from (gate.Damaged at) e = cc
fault_from gate.Memory e = cc

-- a fault is handed on as one
pub fault_to : {T U : Type 0} (refusal : GateRefusal) (answer : Result T GateRefusal) (why : PageRefusal) → Err refusal ≡ answer → why ≡ page_refusal refusal
    → (◌≡◌ {A = Result U PageRefusal} (Err why) (Err DiskFault) → ⊥) → answer ≡ Err gate.DiskFault → ⊥
fault_to refusal answer why is from well e =
    let same : refusal ≡ gate.DiskFault = cc in
    well (ap Err (from ∙ ap page_refusal same))

pub same_why : {T : Type 0} (a b : PageRefusal) → ◌≡◌ {A = Result T PageRefusal} (Err a) (Err b) → a ≡ b
same_why a b e = cc

pub never_limited : (refusal : GateRefusal) → IfPageLimit (page_refusal refusal) (λ count limit. ⊥)
never_limited gate.DiskFault = tt
never_limited (gate.Damaged at) = tt
never_limited gate.Memory = tt

pub damaged_as : (refusal : GateRefusal) (P : ℕ → Type 0) (Q : ℕ → ℕ → Type 0) → ((at : ℕ) → P at → Q 1 at) → log.IfDamaged refusal P → IfDamaged (page_refusal refusal) Q
damaged_as gate.DiskFault P Q says is = tt
damaged_as (gate.Damaged at) P Q says is = says at is
damaged_as gate.Memory P Q says is = tt
