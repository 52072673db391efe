-- What a refusal names.
use Rattle.std.specs.Prelude.{ℕ}
use Rattle.wat_disk.specs.declared.disk.FileId.{FileId}
use Rattle.wat_gate.specs.declared.gate_log.GateRefusal.{GateRefusal}
use Rattle.wat_gate.specs.declared.gate_log.GateRefusal.TheVariants as gate
use Rattle.wat_translate.specs.declared.refusal.LogRefusal.{LogRefusal}
use Rattle.wat_translate.specs.declared.refusal.LogRefusal.TheVariants.{NoDatabase, Damaged, DiskFault, Memory}

-- N where there is no database, and P of the file and the place where the log is damaged
abbrev pub IfNamed : LogRefusal → Type 0 → (ℕ → ℕ → Type 0) → Type 0
IfNamed NoDatabase N P = N
IfNamed (Damaged file at) N P = P file.0 at
IfNamed DiskFault N P = Unit {0}
IfNamed Memory N P = Unit {0}

-- what a gate log's refusal is, of that file
abbrev pub refusal_from : GateRefusal → FileId → LogRefusal
refusal_from gate.DiskFault file = DiskFault
refusal_from (gate.Damaged at) file = Damaged file at
refusal_from gate.Memory file = Memory
