-- A disk in memory, by its record of acts.
use Rattle.std.specs.Prelude.{ℕ, zero, suc, ◌+◌, ◌-◌, nat_le, List, [], ◌∷◌, take, drop, Vec, if◌then◌else◌}
use Rattle.std.specs.declared.alloc.Global.{Global}
use Rattle.wat_disk.specs.declared.memory.Entry.{Entry}
use Rattle.wat_disk.specs.declared.memory.Deed.{Deed}
use Rattle.wat_disk.specs.declared.memory.Deed.TheVariants.{Write, Sync}
use Rattle.wat_disk.specs.Acts.{Act, Wrote, Synced, LeftAfter}
use Rattle.wat_disk.specs.Disk.{Told}

-- the bytes of a file; one that isn't there is empty
abbrev pub bytes_at : List (Vec ℕ Global) → ℕ → List ℕ
bytes_at [] file = []
bytes_at (held ∷ others) zero = held.items
bytes_at (held ∷ others) (suc file) = bytes_at others file

-- how many bytes were written
abbrev pub count_of : Deed → ℕ
count_of (Write at count) = count
count_of Sync = 0

-- the act, where these bytes begin with those that it wrote
abbrev pub act_of : ℕ → Deed → List ℕ → Act
act_of file (Write at count) bytes = Wrote file at (take count bytes)
act_of file Sync bytes = Synced file

-- the acts up to a moment, the newest first, on top of earlier ones
abbrev pub acts_until : ℕ → List Act → List Entry → List ℕ → List Act
acts_until t earlier [] bytes = earlier
acts_until t earlier (entry ∷ entries) bytes =
    acts_until t (if nat_le entry.moment t then act_of entry.file entry.deed bytes ∷ earlier else earlier) entries (drop (count_of entry.deed) bytes)

-- how many bytes a write adds, to a file of this length: its own, and the zeros in front of it
abbrev pub bytes_needed : ℕ → ℕ → ℕ → ℕ
bytes_needed held at n = (at - held) + n

-- what it tells
abbrev pub told_by : List (Vec ℕ Global) → List (Vec ℕ Global) → List Entry → List ℕ → ℕ → ℕ → Told
told_by base files entries bytes moment faults = record {
  content = bytes_at files;
  left_at = λ t image. (file : ℕ) → LeftAfter (bytes_at base) (acts_until t [] entries bytes) file (image file);
  moment = moment;
  faults = faults;
}
