-- What a stop may leave of a checkpoint's pages.
use Rattle.std.specs.Prelude.{◌≡◌, ◌⊎◌, ℕ, ◌<◌, ◌^◌, ◌++◌, nat_eq, true, List}
use Rattle.std.specs.List.{list_any, IsDistinct}
use Rattle.std.specs.Map.{keys_of}
use Rattle.wat_disk.specs.Disk.{Image, Told, Leaves, IsSynced}
use Rattle.wat_restore.specs.Restored.{HasPage, images_in, Checkpoint, IsCovered, OnlyPages}
use Rattle.wat_restore.specs.Images.{pages_of}

-- Whatever a stop now may leave, each page of the checkpoint is covered there, and the before file is on the disk.
pub record IsSafe (saved : Checkpoint) (told : Told) : Type 0 where
  pub before : IsSynced told 1
  pub covered : (image : Image) → Leaves told image → IsCovered saved image

-- The step leaves each page of the checkpoint covered.
pub record Covers (saved : Checkpoint) (old new : Image) : Type 0 where
  pub covered : IsCovered saved new
  pub others : OnlyPages old new

-- The checkpoint has these pages, each once, and they have no images.
pub record CanSave (saved : Checkpoint) (before pages : List ℕ) : Type 0 where
  pub once : IsDistinct nat_eq (keys_of (images_in before) ++ pages)
  pub below : (page : ℕ) → list_any (nat_eq page) pages ≡ true → page < saved.count
  pub small : saved.count < 2 ^ 32

-- These pages have their images, behind those from before.
pub record HasSaved (saved : Checkpoint) (old new : Told) (pages : List ℕ) : Type 0 where
  pub before : IsSynced new 1
  pub images : images_in (new.content 1) ≡ images_in (old.content 1) ++ pages_of (old.content 0) pages

-- The step leaves each page covered of the one checkpoint or of the other.
pub record CoversEither (saved next : Checkpoint) (old new : Image) : Type 0 where
  pub covered : IsCovered saved new ⊎ IsCovered next new
  pub others : OnlyPages old new

-- Main has all pages of the checkpoint.
abbrev pub HasPages : List ℕ → Checkpoint → Type 0
HasPages main saved = (page : ℕ) → page < saved.count → HasPage main page (saved.page page)
