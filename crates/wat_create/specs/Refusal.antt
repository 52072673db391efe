-- What making a database may answer, by what the files are.
use Rattle.std.specs.Prelude.{◌≡◌, ◌≢◌, ℕ, ◌<◌, List, [], Result, Ok, Err}
use Rattle.wat_disk.specs.Disk.{Image}
use Rattle.wat_disk.specs.declared.disk.FileId.{FileId}
use Rattle.wat_create.specs.declared.making.CreateRefusal.{CreateRefusal}
use Rattle.wat_create.specs.declared.making.CreateRefusal.TheVariants.{Exists, DiskFault, Memory}
use Rattle.wat_create.specs.Made.{AreEmpty}

-- Of the three files this one is the least that isn't empty.
pub record IsLeastThere (files : Image) (file : ℕ) : Type 0 where
  pub among : file < 3
  pub there : files file ≢ []
  pub least : (other : ℕ) → other < file → files other ≡ []

-- Making a database may answer so, where the disk tells these files, and where a fault has this cause.
abbrev pub MayCreate : {A : Type 0} → Type 0 → Image → Type 0 → Result A CreateRefusal → Type 0
MayCreate tells files rose (Ok made) = tells → AreEmpty files
MayCreate tells files rose (Err (Exists file)) = tells → IsLeastThere files file.0
MayCreate tells files rose (Err DiskFault) = rose
MayCreate tells files rose (Err Memory) = Unit {0}

-- This file is told, and has a byte.
pub record IsThere (file other : FileId) (bytes : List ℕ) (tells : Type 0) : Type 0 where
  pub this : other ≡ file
  pub there : tells → bytes ≢ []

-- Looking whether a file of these bytes is empty may answer so.
abbrev pub MayFindEmpty : {A : Type 0} → Type 0 → List ℕ → FileId → Type 0 → Result A CreateRefusal → Type 0
MayFindEmpty tells bytes file rose (Ok found) = tells → bytes ≡ []
MayFindEmpty tells bytes file rose (Err (Exists other)) = IsThere file other bytes tells
MayFindEmpty tells bytes file rose (Err DiskFault) = rose
MayFindEmpty tells bytes file rose (Err Memory) = Unit {0}
