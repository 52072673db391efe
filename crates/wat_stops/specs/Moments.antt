-- The moments at which commits were acknowledged.
use Rattle.std.specs.Prelude.{ℕ, zero, suc, ◌+◌, ◌-◌, ◌^◌, ◌<◌, ◌≤◌, min, List, [], ◌∷◌, length, slice_index}

-- the last of these moments, or the one at entry
abbrev pub last_moment : ℕ → List ℕ → ℕ
last_moment entry [] = entry
last_moment entry (moment ∷ moments) = last_moment moment moments

-- the moment after so many calls more; it stays at the last one, 2^64 - 1
abbrev pub moment_after : ℕ → ℕ → ℕ
moment_after moment zero = moment
moment_after moment (suc calls) = min (moment + suc calls) (2 ^ 64 - 1)

-- the moments after so many calls each, one after another
abbrev pub moments_after : ℕ → List ℕ → List ℕ
moments_after start [] = []
moments_after start (calls ∷ more) = moment_after start calls ∷ moments_after (moment_after start calls) more

-- The moments never fall, begin at entry or later, and are at most the disk's last.
pub record AreMoments (entry now : ℕ) (moments : List ℕ) : Type 0 where
  pub ascending : (i k : ℕ) → i ≤ k → k < length moments → slice_index moments i ≤ slice_index moments k
  pub after_entry : (k : ℕ) → k < length moments → entry ≤ slice_index moments k
  pub past : (k : ℕ) → k < length moments → slice_index moments k ≤ now
