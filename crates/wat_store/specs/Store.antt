-- What a store knows of its disk, its objects and its log.
use Rattle.std.specs.Prelude.{◌≡◌, ℕ, List, Option, None}
use Rattle.wat_disk.specs.Disk.{Told}
use Rattle.wat_disk.specs.declared.disk.Disk.{Ghosts}
use Rattle.wat_images.specs.declared.refusal.PageRefusal.{PageRefusal}
use Rattle.wat_pages.specs.Pages.{limit_of, header_of}
use Rattle.wat_value.specs.declared.change.Change.{Change}
use Rattle.wat_schema.specs.Catalog.{Catalog}
use Rattle.wat_schema.specs.Tables.{Tables}
use Rattle.wat_log.specs.Log as logs
use Rattle.wat_replay.specs.State.{State}
use Rattle.wat_objects.specs.declared.objects.Objects.{Objects}
use Rattle.wat_objects.specs.Objects as objects
use Rattle.wat_store.specs.declared.store.Store.{Store}
use Rattle.wat_store.specs.Parts.{IsStore, HoldsSafe, StopsAt}
use Rattle.wat_store.specs.Saving.{CountsLog}

abbrev pub disk_of : {D : Type 0} {g : Ghosts D} (store : Store D g) → D
disk_of store = store.disk

abbrev pub told_of : {D : Type 0} {g : Ghosts D} (store : Store D g) → Told
told_of {D} {g} store = g.told store.disk

abbrev pub objects_of : {D : Type 0} {g : Ghosts D} (store : Store D g) → Objects
objects_of store = store.objects

-- the first refusal of a call on its files
abbrev pub refusal_of : {D : Type 0} {g : Ghosts D} (store : Store D g) → Option PageRefusal
refusal_of store = store.refused

-- the page limit
abbrev pub limit_in : {D : Type 0} {g : Ghosts D} (store : Store D g) → ℕ
limit_in store = limit_of (objects.pages_of store.objects)

abbrev pub schema_in : {D : Type 0} {g : Ghosts D} (store : Store D g) → Catalog
schema_in store = objects.schema_of store.objects

-- the connections with changes, each with its own
abbrev pub undo_in : {D : Type 0} {g : Ghosts D} (store : Store D g) → List (ℕ × List Change)
undo_in store = objects.undo_of store.objects

-- the bytes that are noted and not flushed
abbrev pub noted_in : {D : Type 0} {g : Ghosts D} (store : Store D g) → List ℕ
noted_in store = logs.noted_bytes store.log

-- for how many commits room is made
abbrev pub room_of : {D : Type 0} {g : Ghosts D} (store : Store D g) → ℕ
room_of store = logs.spare_of store.log

-- The store goes on, is in this state, and all that a stop now may leave is a database of these tables, which are the committed ones.
pub record IsStoreOf {D : Type 0} {g : Ghosts D} (store : Store D g) (s : State) (t : Tables) : Type 0 where
  pub going : store.refused ≡ None
  pub is : IsStore (g.told store.disk) store.objects store.log s t

-- The store goes on and holds this state, whether its pages agree with its log or not.
pub record HoldsIn {D : Type 0} {g : Ghosts D} (store : Store D g) (s : State) : Type 0 where
  pub going : store.refused ≡ None
  pub is : HoldsSafe (g.told store.disk) store.objects s

-- a stop from one store to the other leaves a database of the one tables or of the others, with the page limit of the first
abbrev pub Stops : {D : Type 0} {g : Ghosts D} (old new : Store D g) → Tables → Tables → Type 0
Stops {D} {g} old new t after = StopsAt (g.told old.disk) (g.told new.disk) old.objects t after

-- the header of the last checkpoint counts all frames of the log
abbrev pub CountsAll : {D : Type 0} {g : Ghosts D} (store : Store D g) → Type 0
CountsAll {D} {g} store = CountsLog (g.told store.disk) (header_of (objects.pages_of store.objects))
