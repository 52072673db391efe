-- Where opening fails: the checkpoint log first, from its start on, and then the header's page.
use Rattle.std.specs.Prelude.{◌≡◌, ◌⊎◌, ℕ, ◌+◌, ◌*◌, ◌%◌, nat_eq, List, length, take, All}
use Rattle.std.specs.List.{flat_map, IsDistinct}
use Rattle.std.specs.Map.{keys_of}
use Rattle.wat_disk.specs.Disk.{Image}
use Rattle.wat_gate.specs.Bodies.{bodies, IsWhole, IsBrokenAt, IsAtGate}
use Rattle.wat_restore.specs.Head.{Head, IsHead}
use Rattle.wat_restore.specs.Restored.{images_of, IsImageLog, StandsIn}

-- These bodies are whole images, and no page has two.
pub record AreImages (all : List (List ℕ)) : Type 0 where
  pub whole : All (λ body. length body % 4100 ≡ 0) all
  pub once : IsDistinct nat_eq (keys_of (flat_map images_of all))

-- At this place stands the gate of the first frame that is no whole images, or has the image of a page that came before.
pub record IsNoImageFrameAt (before : List ℕ) (at : ℕ) : Type 0 where
  pub frame : ℕ
  pub gate : IsAtGate before at frame
  pub so_far : AreImages (take frame (bodies before))
  pub none : AreImages (take (frame + 1) (bodies before)) → ⊥

-- The page is in the files, as the header's, and tells this.
pub record IsHeadIn (files : Image) (head : Head) : Type 0 where
  pub page : List ℕ
  pub stands : StandsIn files 0 page
  pub is : IsHead page head

-- The before file is broken as a gate log at this gate.
pub record IsBrokenLog (files : Image) (file at : ℕ) : Type 0 where
  pub in_before : file ≡ 1
  pub broken : IsBrokenAt (files 1) at

-- The before file is a gate log, and the frame at this gate is no images.
pub record HasNoImages (files : Image) (file at : ℕ) : Type 0 where
  pub in_before : file ≡ 1
  pub whole : IsWhole (files 1)
  pub frame : IsNoImageFrameAt (files 1) at

-- The before file is a checkpoint log, and the header's page is none.
pub record HasNoHead (files : Image) (file at : ℕ) : Type 0 where
  pub in_main : file ≡ 0
  pub place : at ≡ 0
  pub log : IsImageLog (files 1)
  pub none : (head : Head) → IsHeadIn files head → ⊥

-- Opening fails at this place of this file.
abbrev pub FailsAt : Image → ℕ → ℕ → Type 0
FailsAt files file at = IsBrokenLog files file at ⊎ (HasNoImages files file at ⊎ HasNoHead files file at)

-- The page isn't in the files.
pub record IsMissing (files : Image) (page : ℕ) (file at : ℕ) : Type 0 where
  pub in_main : file ≡ 0
  pub place : at ≡ 4096 * page
  pub none : (bytes : List ℕ) → StandsIn files page bytes → ⊥
