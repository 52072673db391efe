-- The images of a checkpoint log, read into a map.
use Rattle.std.specs.Prelude.{◌≡◌, ℕ, ◌%◌, nat_eq, List, ◌++◌, length, take, drop, All}
use Rattle.std.specs.List.{flat_map, IsDistinct}
use Rattle.std.specs.Map.{lookup, keys_of}
use Rattle.std.specs.Int.{w32, from_be_bytes}
use Rattle.wat_disk.specs.Disk.{Told}
use Rattle.wat_gate.specs.GateLog.{IsLogOf}
use Rattle.wat_restore.specs.Restored.{images_of, images_in, IsImageLog}
use Rattle.wat_images.specs.declared.reading.CheckpointLog.{CheckpointLog}

-- each page of the map has 4,096 bytes
pub record AreWhole (entries : List (ℕ × List ℕ)) : Type 0 where
  pub whole : All (λ (entry : ℕ × List ℕ). length entry.1 ≡ 4096) entries

-- the map has the image of each page
abbrev pub SameImages : List (ℕ × List ℕ) → List (ℕ × List ℕ) → Type 0
SameImages entries images = (page : ℕ) → lookup (nat_eq page) entries ≡ lookup (nat_eq page) images

-- the map has the image of each page, and no page has two
pub record HasImages (entries images : List (ℕ × List ℕ)) : Type 0 where
  pub same : SameImages entries images
  pub once : IsDistinct nat_eq (keys_of images)

-- the image that the bytes begin with
abbrev pub image_in : List ℕ → ℕ × List ℕ
image_in bytes = (from_be_bytes w32 (take 4 bytes), take 4096 (drop 4 bytes))

-- the body is whole images of other pages than those before, each of another page
pub record CanAdd (before : List (ℕ × List ℕ)) (body : List ℕ) : Type 0 where
  pub whole : length body % 4100 ≡ 0
  pub once : IsDistinct nat_eq (keys_of (before ++ images_of body))

-- the images of the body were put among those from before
pub record AddsImages (before : List (ℕ × List ℕ)) (body : List ℕ) (entries : List (ℕ × List ℕ)) : Type 0 where
  pub whole : length body % 4100 ≡ 0
  pub has : HasImages entries (before ++ images_of body)

-- the map has the images of these bodies
pub record ReadsFrames (all : List (List ℕ)) (entries : List (ℕ × List ℕ)) : Type 0 where
  pub whole : All (λ body. length body % 4100 ≡ 0) all
  pub has : HasImages entries (flat_map images_of all)

-- The log is that of the before file as it reads, and the images are those in it.
pub record IsCheckpointLog (told : Told) (opened : CheckpointLog) : Type 0 where
  pub known : IsLogOf told opened.log
  pub log : IsImageLog (told.content 1)
  pub images : HasImages opened.images.entries (images_in (told.content 1))
