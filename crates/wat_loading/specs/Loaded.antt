-- What a database has in memory once its files are read.
use Rattle.std.specs.Prelude.{◌≡◌, ℕ, List, []}
use Rattle.wat_disk.specs.Disk.{Image, Told}
use Rattle.wat_restore.specs.Head.{Head}
use Rattle.wat_book.specs.Book.{Book}
use Rattle.wat_pages.specs.Pages.{count_of, stored_of}
use Rattle.wat_replay.specs.State.{State, IsLawful}
use Rattle.wat_heap.specs.Heaps.{directory_of}
use Rattle.wat_undo.specs.Kept.{lists_of}
use Rattle.wat_log.specs.Log.{IsOpenLog, noted_bytes}
use Rattle.wat_files.specs.Pages.{first_pages}
use Rattle.wat_files.specs.Chains.{Chains, HasChains}
use Rattle.wat_files.specs.Formed.{HasHeader, Stands, HasLog}
use Rattle.wat_free_list.specs.Whole.{whole_pages}
use Rattle.wat_roots.specs.Roots.{head_now}
use Rattle.wat_objects.specs.Objects.{pages_of, Holds}
use Rattle.wat_loading.specs.declared.loading.Loaded.{Loaded}
use Rattle.wat_loading.specs.declared.loading.Rest.{Rest}
use Rattle.wat_loading.specs.Parts.{TellParts, HasRowsOf}

-- The files have a header, their pages stand for a state, and their log is as the header says; the objects hold that state on the pages as they read now.
pub record IsLoaded (files : Image) (told : Told) (loaded : Loaded) : Type 0 where
  pub head : Head
  pub saved : State
  pub header : HasHeader files head
  pub stands : Stands (first_pages files head.count) head saved
  pub log : HasLog (files 2) head
  pub lawful : IsLawful saved
  pub tells : head_now (pages_of loaded.objects) ≡ head
  pub unchanged : stored_of (pages_of loaded.objects) ≡ count_of (pages_of loaded.objects)
  pub holds : Holds told loaded.objects saved
  pub opened : IsOpenLog told loaded.log
  pub noted : noted_bytes loaded.log ≡ []

-- The steps behind the header went well: the pages stand for what was read, and the log is as the header says.
pub record HoldsRest (book : Book) (head : Head) (log : List ℕ) (rest : Rest) : Type 0 where
  pub chains : Chains
  pub has : HasChains (whole_pages book) head chains
  pub parts : TellParts head chains rest.schema (lists_of rest.undo)
  pub rows : HasRowsOf book head chains rest.schema (lists_of rest.undo) (directory_of rest.heap)
  pub logged : HasLog log head
