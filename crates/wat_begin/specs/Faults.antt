-- Answers that may be a fault.
use Rattle.std.specs.Prelude.{⊤, Result, Ok, Err}
use Rattle.wat_begin.specs.declared.fault.Fault.{Fault}
use Rattle.wat_begin.specs.declared.fault.Fault.TheVariants.{Memory}

-- the first fault of two steps, or what the second makes of the first's value
infixl 10 ◌>>=◌
abbrev pub ◌>>=◌ : {A B : Type 0} → Result A Fault → (A → Result B Fault) → Result B Fault
(Ok x) >>= f = f x
(Err e) >>= f = Err e

-- Want of memory is the one free answer.
abbrev pub UnlessMemory : {A : Type 0} → Result A Fault → Type 0 → Type 0
UnlessMemory (Err Memory) P = ⊤
UnlessMemory answer P = P
