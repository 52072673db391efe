-- What records are made on.
use Rattle.std.specs.Prelude.{◌≡◌, ℕ, ◌≤◌, Option, Some, None}
use Rattle.wat_faults.specs.Faults.{Rose}
use Rattle.wat_disk.specs.Disk.{Told}
use Rattle.wat_disk.specs.declared.disk.Disk.{Ghosts}
use Rattle.wat_restore.specs.Restored.{Checkpoint}
use Rattle.wat_restore.specs.Safe.{IsSafe}
use Rattle.wat_images.specs.declared.refusal.PageRefusal.{PageRefusal}
use Rattle.wat_images.specs.declared.refusal.PageRefusal.TheVariants.{DiskFault}
use Rattle.wat_images.specs.Refusal.{IfPageLimit}
use Rattle.wat_pages.specs.Pages.{stored_of}
use Rattle.wat_cells.specs.Going.{Goes}
use Rattle.wat_replay.specs.State.{State}
use Rattle.wat_objects.specs.declared.objects.Objects.{Objects}
use Rattle.wat_objects.specs.Objects.{pages_of, Holds}
use Rattle.wat_repeating.specs.declared.on_pages.OnPages.{OnPages}

abbrev pub disk_of : {D : Type 0} {g : Ghosts D} (x : OnPages D g) → D
disk_of x = x.disk

abbrev pub told_of : {D : Type 0} {g : Ghosts D} (x : OnPages D g) → Told
told_of {D} {g} x = g.told x.disk

abbrev pub objects_of : {D : Type 0} {g : Ghosts D} (x : OnPages D g) → Objects
objects_of x = x.objects

-- the first refusal of a call
abbrev pub refusal_of : {D : Type 0} {g : Ghosts D} (x : OnPages D g) → Option PageRefusal
refusal_of x = x.refused

-- Nothing was refused, the objects hold the state, and whatever a stop now may leave has the last checkpoint.
pub record Stands {D : Type 0} {g : Ghosts D} (x : OnPages D g) (s : State) : Type 0 where
  pub tells : g.tells_content
  pub going : x.refused ≡ None
  pub holds : Holds (g.told x.disk) x.objects s
  pub saved : Checkpoint
  pub safe : IsSafe saved (g.told x.disk)
  pub counted : saved.count ≡ stored_of (pages_of x.objects)

-- No page more can be numbered.
abbrev pub IsFull : ℕ → ℕ → Type 0
IsFull count limit = (limit ≡ 4294967295) × (limit ≤ count)

-- From the one to the other the files of the log are as before, and a stop leaves the last checkpoint. Behind a refusal no call of the disk is made.
pub record Moves {D : Type 0} {g : Ghosts D} (x y : OnPages D g) : Type 0 where
  pub goes : g.tells_content → Goes (g.told x.disk) (g.told y.disk) (pages_of x.objects) (pages_of y.objects)
  pub safe : g.tells_content → y.refused ≡ None → (saved : Checkpoint) → IsSafe saved (g.told x.disk) → IsSafe saved (g.told y.disk)
  pub rests : (refusal : PageRefusal) → x.refused ≡ Some refusal → (y.disk ≡ x.disk) × (y.refused ≡ Some refusal)
  pub later : (g.told x.disk).faults ≤ (g.told y.disk).faults
  pub fault : x.refused ≡ None → y.refused ≡ Some DiskFault → Rose (g.told x.disk).faults (g.told y.disk).faults
  pub limited : (refusal : PageRefusal) → x.refused ≡ None → y.refused ≡ Some refusal → IfPageLimit refusal IsFull
