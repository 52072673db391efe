-- What a run of appends leaves of a log's file, whatever other files are changed beside it.
use Rattle.std.specs.Prelude.{◌≡◌, ℕ, ◌+◌, ◌≤◌, List, ◌++◌, take}
use Rattle.wat_disk.specs.Disk.{Image, Told, EachLeft}
use Rattle.wat_gate.specs.Bodies.{bodies}

-- this step of one file, whatever becomes of the others
abbrev pub OfFile : ℕ → (List ℕ → List ℕ → Type 0) → Image → Image → Type 0
OfFile file Step old new = Step (old file) (new file)

-- one file reads as before
abbrev pub SameFile : ℕ → Image → Image → Type 0
SameFile file old new = new file ≡ old file

-- the bodies are those from before, and then the first n of these
pub record AddsSome (added : List (List ℕ)) (low high : ℕ) (before after : List (List ℕ)) : Type 0 where
  pub n : ℕ
  pub at_least : low ≤ n
  pub at_most : n ≤ high
  pub is : after ≡ before ++ take n added

-- the same of the bodies in a file, for at most so many
abbrev pub AddsSomeBodies : List (List ℕ) → ℕ → List ℕ → List ℕ → Type 0
AddsSomeBodies added high old new = AddsSome added 0 high (bodies old) (bodies new)

-- The moment at which append k was acknowledged: each image left since then has its body and those before it, and no
-- image left from the run's entry up to then has a later one.
pub record IsAcknowledged (entry now : Told) (file : ℕ) (before added : List (List ℕ)) (k at count : ℕ) : Type 0 where
  pub past : at ≤ now.moment
  pub since : EachLeft now at now.moment (λ image. AddsSome added (k + 1) count before (bodies (image file)))
  pub until : EachLeft now entry.moment at (λ image. AddsSome added 0 (k + 1) before (bodies (image file)))
