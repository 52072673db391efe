-- What the acts of a disk, its writes and syncs, make of the files, and what a stop after them may leave.
use Rattle.std.specs.Prelude.{◌≡◌, ℕ, ◌==◌, List, [], ◌∷◌, length, MatchBool, if◌then◌else◌}
use Rattle.wat_disk.specs.Bytes.{written, Torn}
use Rattle.wat_disk.specs.Disk.{Image}

pub data Act : Type 0 where
  Wrote : (file at : ℕ) (bytes : List ℕ) → Act
  Synced : (file : ℕ) → Act

-- what a read gives after these acts, the newest of them first
abbrev pub content_after : Image → List Act → Image
content_after base [] file = base file
content_after base (Wrote changed at bytes ∷ earlier) file =
    if file == changed then written (content_after base earlier file) at bytes else content_after base earlier file
content_after base (Synced synced ∷ earlier) file = content_after base earlier file

-- what a stop may leave of a file after these acts
abbrev pub LeftAfter : Image → List Act → ℕ → List ℕ → Type 0
LeftAfter base [] file left = left ≡ base file
LeftAfter base (Wrote changed at bytes ∷ earlier) file left = MatchBool (file == changed)
    ((before : List ℕ) × LeftAfter base earlier file before × Torn at (length bytes) before left)
    (LeftAfter base earlier file left)
LeftAfter base (Synced synced ∷ earlier) file left = MatchBool (file == synced)
    (left ≡ content_after base earlier file)
    (LeftAfter base earlier file left)
