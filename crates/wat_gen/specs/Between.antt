-- A part of the statements that are drawn.
use Rattle.std.specs.Prelude.{ℕ, List, ◌++◌, codes, decimal}

-- the numbers from a low one to a high one, as they are written
unfoldable pub between_text : ℕ → ℕ → List ℕ
between_text low high = codes "BETWEEN " ++ decimal low ++ codes " AND " ++ decimal high
