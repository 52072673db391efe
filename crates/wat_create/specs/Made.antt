-- The three files of a database that has just been made, and those of one that isn't made yet.
use Rattle.std.specs.Prelude.{◌≡◌, ◌⊎◌, ℕ, ◌-◌, ◌<◌, ◌≤◌, List, [], ◌∷◌, ◌++◌, replicate}
use Rattle.wat_disk.specs.Disk.{Image, Told, IsSynced, SameFiles}
use Rattle.wat_restore.specs.Head.{Head, head_bytes}
use Rattle.wat_book.specs.Chains.{chain_front}
use Rattle.wat_schema.specs.Tables.{no_tables}
use Rattle.wat_files.specs.Formed.{FailsAt}
use Rattle.wat_keeping.specs.Durable.{IsDatabase}

-- ---- what is made

-- the first header: two pages of at most so many, no frame in the log, the catalog at page 1, and nothing to roll back or free
abbrev pub first_head : ℕ → Head
first_head limit = record { limit = limit; count = 2; frames = 0; place = 0; catalog = 1; rollback = 0; free = 0; next_table = 1 }

-- the payload of a catalog without tables: their count
abbrev pub no_listings : List ℕ
no_listings = 0 ∷ 0 ∷ 0 ∷ 0 ∷ []

-- the page of that catalog: a chain of this page alone
unfoldable pub catalog_page : List ℕ
catalog_page = chain_front 0 4 ++ no_listings ++ replicate (4080 - 4) 0

-- main: the header and the catalog
abbrev pub main_bytes : ℕ → List ℕ
main_bytes limit = head_bytes (first_head limit) ++ catalog_page

-- a log without frames, of images and of records: its closed gate
abbrev pub empty_log : List ℕ
empty_log = 0 ∷ []

-- The files are those of a new database with this page limit.
pub record AreNew (limit : ℕ) (files : Image) : Type 0 where
  pub main : files 0 ≡ main_bytes limit
  pub before : files 1 ≡ empty_log
  pub log : files 2 ≡ empty_log

-- All three of them are on the disk.
pub record AreSynced (told : Told) : Type 0 where
  pub main : IsSynced told 0
  pub before : IsSynced told 1
  pub log : IsSynced told 2

-- ---- what isn't made yet

-- None of the three files has a byte.
abbrev pub AreEmpty : Image → Type 0
AreEmpty files = (file : ℕ) → file < 3 → files file ≡ []

-- No database stands here yet: opening fails at the first gate of the before file. Three empty files fail there too.
abbrev pub IsUnmade : Image → Type 0
IsUnmade files = FailsAt files 1 0

-- ---- steps

-- the files from 3 on are as before
abbrev pub KeepsOthers : Image → Image → Type 0
KeepsOthers old new = (file : ℕ) → 3 ≤ file → new file ≡ old file

-- the before file and the files from 3 on are as before
pub record KeepsBefore (old new : Image) : Type 0 where
  pub before : new 1 ≡ old 1
  pub others : KeepsOthers old new

-- Main has these bytes, and the log no frame.
pub record HasContent (main : List ℕ) (files : Image) : Type 0 where
  pub pages : files 0 ≡ main
  pub log : files 2 ≡ empty_log

-- No database stands yet, or it is the new one.
abbrev pub MakesEither : ℕ → Image → Image → Type 0
MakesEither limit before after = IsUnmade after ⊎ IsDatabase limit no_tables after

-- All files are as before, or no database stands yet, or it is the new one.
abbrev pub LeavesOrMakes : ℕ → Image → Image → Type 0
LeavesOrMakes limit before after = SameFiles before after ⊎ MakesEither limit before after
