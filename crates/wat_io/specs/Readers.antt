use Rattle.std.specs.Prelude.{◌≡◌, ℕ, ◌<◌, ◌≤◌, List, ◌++◌, length, Option}
use Rattle.std.specs.Io.KnownBytes.{Consumes, IsAtEnd}

-- What was appended is what a reader gave, where it had these bytes left before and those after: at most so many, and all up to its end
-- where they are fewer.
pub record GivesFirst (left left_now : Option (List ℕ)) (most : ℕ) (old new : List ℕ) : Type 0 where
  pub bytes : List ℕ
  pub appended : new ≡ old ++ bytes
  pub given : Consumes left left_now bytes
  pub bounded : length bytes ≤ most
  pub to_end : length bytes < most → IsAtEnd left_now
