-- What a stop at any moment leaves of commits, whatever it is that restart gives: the rows of a table, or tables.
use Rattle.std.specs.Prelude.{◌⊎◌, ◌↔◌, ℕ, ◌+◌, ◌<◌, ◌≤◌, List, length, slice_index}
use Rattle.std.specs.List.{Any}
use Rattle.wat_disk.specs.Disk.{Image, Told, EachLeft}

-- The commits of a session on a disk, whose restart gives a state of this type.
pub record Commits (State : Type 0) : Type 1 where
  -- the disk at entry, and now
  pub entry : Told
  pub now : Told
  -- restart over this image gives this state
  pub Restarts : Image → State → Type 0
  -- the state after so many commits
  pub after : ℕ → State
  -- the disk's moment at which each commit was acknowledged
  pub moments : List ℕ
  -- the states after all commits and one more that a disk fault has cut short
  pub cuts : List State

-- Restart over this image gives the state after j commits, for some j from low to high.
pub record RestartsBetween {State : Type 0} (c : Commits State) (low high : ℕ) (image : Image) : Type 0 where
  pub j : ℕ
  pub at_least : low ≤ j
  pub at_most : j ≤ high
  pub restarts : c.Restarts image (c.after j)

-- Restart over this image gives a state with a cut commit.
abbrev pub RestartsWithCut : {State : Type 0} → Commits State → Image → Type 0
RestartsWithCut c image = Any (c.Restarts image) c.cuts

-- What a stop at any moment from entry to now might have left keeps each commit that was acknowledged by then.
pub record KeepsCommits {State : Type 0} (c : Commits State) : Type 0 where
  -- what was told of the moments up to entry stays told
  pub past : (t : ℕ) (image : Image) → t ≤ c.entry.moment → c.now.left_at t image ↔ c.entry.left_at t image
  -- the state after some commit, or after the last with a cut one
  pub every : EachLeft c.now c.entry.moment c.now.moment
      (λ image. RestartsBetween c 0 (length c.moments) image ⊎ RestartsWithCut c image)
  -- from the moment at which a commit was acknowledged, it is there
  pub since : (k : ℕ) → k < length c.moments → EachLeft c.now (slice_index c.moments k) c.now.moment
      (λ image. RestartsBetween c (k + 1) (length c.moments) image ⊎ RestartsWithCut c image)
  -- up to that moment, no later commit is there
  pub until : (k : ℕ) → k < length c.moments → EachLeft c.now c.entry.moment (slice_index c.moments k)
      (λ image. RestartsBetween c 0 (k + 1) image)
