use Rattle.std.specs.Prelude.{ℕ}
use Rattle.wat_gate.specs.declared.gate_log.GateRefusal.{GateRefusal}
use Rattle.wat_gate.specs.declared.gate_log.GateRefusal.TheVariants as gate
use Rattle.wat_images.specs.declared.refusal.PageRefusal.{PageRefusal}
use Rattle.wat_images.specs.declared.refusal.PageRefusal.TheVariants.{DiskFault, Damaged, PageLimit, Memory}

-- a fact of the file and the place, where the refusal tells them
abbrev pub IfDamaged : PageRefusal → (ℕ → ℕ → Type 0) → Type 0
IfDamaged DiskFault P = Unit {0}
IfDamaged (Damaged file at) P = P file.0 at
IfDamaged (PageLimit count limit) P = Unit {0}
IfDamaged Memory P = Unit {0}

-- a fact of the count and the limit, where the refusal tells them
abbrev pub IfPageLimit : PageRefusal → (ℕ → ℕ → Type 0) → Type 0
IfPageLimit DiskFault P = Unit {0}
IfPageLimit (Damaged file at) P = Unit {0}
IfPageLimit (PageLimit count limit) P = P count limit
IfPageLimit Memory P = Unit {0}

-- why the pages aren't opened, where the gate log of the before file refused so
abbrev pub page_refusal : GateRefusal → PageRefusal
page_refusal gate.DiskFault = DiskFault
page_refusal (gate.Damaged at) = Damaged (record { 0 = 1 }) at
page_refusal gate.Memory = Memory
