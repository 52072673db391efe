-- Savepoints as they are kept, the latest last.
use Rattle.std.specs.Prelude.{◌≡◌, ℕ, ◌≤◌, List, [], ◌∷◌, map, length, take, reverse}
use Rattle.wat_schema.specs.Catalog.{Name}
use Rattle.wat_history.specs.Connection.{back_from}
use Rattle.wat_connection.specs.declared.savepoints.Savepoint.{Savepoint}

-- the name, and how many changes stood there
abbrev pub save_of : Savepoint → Name × ℕ
save_of s = (s.name, s.standing)

-- the latest first
abbrev pub saves_of : List Savepoint → List (Name × ℕ)
saves_of savepoints = map save_of (reverse savepoints)

-- of the first so many, which are one at least, the last one is the newest of the name
pub record IsNewest (savepoints : List Savepoint) (name : Name) (left : ℕ) : Type 0 where
  pub some : 1 ≤ left
  pub within : left ≤ length savepoints
  pub newest : back_from name (saves_of savepoints) ≡ saves_of (take left savepoints)

-- at each savepoint no more changes stood than at the later ones, and than stand now
abbrev pub AreNested : ℕ → List (Name × ℕ) → Type 0
AreNested standing [] = Unit {0}
AreNested standing (save ∷ earlier) = (save.1 ≤ standing) × AreNested save.1 earlier
