-- What a disk in memory tells, and when its calls do their work.
use Rattle.std.specs.Prelude.{◌≡◌, ℕ, ◌+◌, ◌^◌, ◌<◌, ◌≤◌, List, [], length, Contains}
use Rattle.wat_disk.specs.declared.memory.Entry.{Entry}
use Rattle.wat_disk.specs.declared.memory.MemoryDisk.{MemoryDisk}
use Rattle.wat_disk.specs.declared.replay.Pick.{Pick}
use Rattle.wat_disk.specs.Disk.{Image, Told}
use Rattle.wat_disk.specs.Memory.{bytes_at, acts_until, told_by, bytes_needed}
use Rattle.wat_disk.specs.Picks.{picked_after}

abbrev pub told_of : MemoryDisk → Told
told_of disk = told_by disk.base.items disk.files.items disk.entries.items disk.kept.items disk.moment disk.faults

-- what a stop at a moment leaves by this pick
abbrev pub left_by : Pick → ℕ → MemoryDisk → Image
left_by pick moment disk = picked_after pick (bytes_at disk.base.items) (acts_until moment [] disk.entries.items disk.kept.items)

-- the writes and syncs that did their work, in order
abbrev pub calls_of : MemoryDisk → List Entry
calls_of disk = disk.entries.items

-- the moments at which a call fails
abbrev pub fails_of : MemoryDisk → List ℕ
fails_of disk = disk.fails.items

-- the room that it was made with
abbrev pub room_of : MemoryDisk → ℕ
room_of disk = disk.room

-- how many writes and syncs there is room for
abbrev pub spare_calls : MemoryDisk → ℕ
spare_calls disk = disk.spare_calls

-- how many bytes there is room for
abbrev pub spare_bytes : MemoryDisk → ℕ
spare_bytes disk = disk.spare_bytes

-- A call now isn't one of those that fail, and the last moment hasn't come.
pub record CanCall (disk : MemoryDisk) : Type 0 where
  pub in_time : disk.moment + 1 < 2 ^ 64
  pub allowed : ¬ Contains (fails_of disk) disk.moment

-- A sync now does its work.
pub record CanSync (disk : MemoryDisk) : Type 0 where
  pub can_call : CanCall disk
  pub call_fits : 0 < spare_calls disk

-- A write of n bytes at this place now does its work.
pub record CanWrite (disk : MemoryDisk) (file at n : ℕ) : Type 0 where
  pub can_call : CanCall disk
  pub call_fits : 0 < spare_calls disk
  pub in_range : at + n < 2 ^ 64
  pub bytes_fit : bytes_needed (length ((told_of disk).content file)) at n ≤ spare_bytes disk

-- So many calls and bytes of the room are taken; the calls that fail stay.
pub record Takes (calls bytes : ℕ) (old new : MemoryDisk) : Type 0 where
  pub calls_left : spare_calls new + calls ≡ spare_calls old
  pub bytes_left : spare_bytes new + bytes ≡ spare_bytes old
  pub same_room : room_of new ≡ room_of old
  pub same_fails : fails_of new ≡ fails_of old
