-- What a disk in memory keeps of its own fields.
use Rattle.std.specs.Prelude.{◌≡◌, ℕ, ◌+◌, ◌<◌, ◌≤◌, ◌^◌, vec_len, vec_capacity, List, [], ◌∷◌, Vec, All, length}
use Rattle.std.specs.declared.alloc.Global.{Global}
use Rattle.wat_disk.specs.declared.memory.Entry.{Entry}
use Rattle.wat_disk.specs.declared.memory.Deed.{Deed}
use Rattle.wat_disk.specs.declared.memory.Deed.TheVariants.{Write, Sync}
use Rattle.wat_disk.specs.Acts.{content_after}
use Rattle.wat_disk.specs.Memory.{bytes_at, count_of, acts_until}

-- how many bytes they wrote
abbrev pub count_all : List Entry → ℕ
count_all [] = 0
count_all (entry ∷ entries) = count_of entry.deed + count_all entries

-- where a write ends
abbrev pub end_of : Deed → ℕ
end_of (Write at count) = at + count
end_of Sync = 0

-- An entry speaks of one of the eight files, and of a range that ends below 2^64.
pub record IsUsable (entry : Entry) : Type 0 where
  pub of_eight : entry.file < 8
  pub in_range : end_of entry.deed < 2 ^ 64

-- The record of a disk in memory: each act's moment is past, its bytes are kept, and the files are what the acts make.
pub record IsRecord (base files : List (Vec ℕ Global)) (entries : List Entry) (bytes : List ℕ) (moment : ℕ) : Type 0 where
  pub past : All (λ (entry : Entry). entry.moment ≤ moment) entries
  pub usable : All IsUsable entries
  pub kept : length bytes ≡ count_all entries
  pub replayed : (file : ℕ) → bytes_at files file ≡ content_after (bytes_at base) (acts_until moment [] entries bytes) file
  pub eight : length files ≡ 8
  pub base_eight : length base ≡ 8

-- The room that was made: so many calls and so many bytes more need no memory.
pub record IsRoomy (files : List (Vec ℕ Global)) (entries : Vec Entry Global) (kept : Vec ℕ Global) (calls bytes : ℕ) : Type 0 where
  pub entries_fit : vec_len entries + calls ≤ vec_capacity entries
  pub kept_fit : vec_len kept + bytes ≤ vec_capacity kept
  pub files_fit : All (λ (held : Vec ℕ Global). vec_len held + bytes ≤ vec_capacity held) files
