-- What reading scripts comes to, in their order.
use Rattle.std.specs.Prelude.{◌≡◌, ℕ, ◌+◌, nat_lt, if◌then◌else◌, List, [], ◌∷◌, length, take, Option, None, Some, Result, Ok, Err}
use Rattle.std.specs.Str.Lossy.{utf8_valid_len}
use Rattle.wat_faults.specs.Faults.{Rose}
use Rattle.wat_io.specs.Scripts.{Texts, Stands}
use Rattle.wat_begin.specs.Faults.{◌>>=◌}
use Rattle.wat_begin.specs.declared.fault.Fault.{Fault}
use Rattle.wat_begin.specs.declared.fault.Fault.TheVariants.{CannotRead, TooLong, NotText}

-- what reading a script came to
pub data Reading : Type 0 where
  Holds : List ℕ → Reading
  Missing : Reading
  Failing : Reading

-- Under this name the scripts may be read so, where their count of faults goes from `before` to `now`: it stays, unless this very reading
-- has failed.
abbrev pub MayRead : Option Texts → ℕ → ℕ → List ℕ → Reading → Type 0
MayRead told before now name (Holds text) = Stands told name (Some text) × (now ≡ before)
MayRead told before now name Missing = Stands told name None × (now ≡ before)
MayRead told before now name Failing = Rose before now

-- a reading for each name, in order, through which the count goes from `before` to `now`
abbrev pub AreReadings : Option Texts → ℕ → ℕ → List (List ℕ) → List Reading → Type 0
AreReadings told before now [] [] = now ≡ before
AreReadings told before now (name ∷ names) (reading ∷ readings) = (between : ℕ) × MayRead told before between name reading × AreReadings told between now names readings
AreReadings told before now [] (reading ∷ readings) = ⊥
AreReadings told before now (name ∷ names) [] = ⊥

-- a script has at most so many bytes
abbrev pub script_limit : ℕ
script_limit = 16777216

-- script number i: a fault of reading comes first, then its length, then its text
abbrev pub script_of : ℕ → Reading → Result (List ℕ) Fault
script_of i (Holds text) =
    if nat_lt script_limit (length text) then Err (TooLong i)
    else if nat_lt (utf8_valid_len text) (length text) then Err (NotText i (utf8_valid_len text))
    else Ok text
script_of i Missing = Err (CannotRead i)
script_of i Failing = Err (CannotRead i)

-- the scripts in order, the first as number i, or the first fault
abbrev pub scripts_of : ℕ → List Reading → Result (List (List ℕ)) Fault
scripts_of i [] = Ok []
scripts_of i (reading ∷ readings) =
    script_of i reading >>= λ text. scripts_of (i + 1) readings >>= λ texts. Ok (text ∷ texts)

-- The names that were asked for where this is the answer: those up to the script that is at fault, or all of them.
abbrev pub names_asked : {A : Type 0} → List (List ℕ) → Result A Fault → List (List ℕ)
names_asked names (Err (CannotRead i)) = take i names
names_asked names (Err (TooLong i)) = take i names
names_asked names (Err (NotText i at)) = take i names
names_asked names _ = names
