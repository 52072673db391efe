-- Pages of cells.
use Rattle.std.specs.Prelude.{◌≡◌, ℕ, ◌+◌, ◌<◌, ◌≤◌, ◌^◌, List, ◌∷◌, ◌++◌, length, take, drop, replicate}
use Rattle.std.specs.List.{flat_map}
use Rattle.std.specs.Int.{w16, to_be_bytes}

-- a cell as it is written: its length, in two bytes, and its bytes
abbrev pub cell_bytes : List ℕ → List ℕ
cell_bytes cell = to_be_bytes w16 (length cell) ++ cell

abbrev pub cells_bytes : List (List ℕ) → List ℕ
cells_bytes cells = flat_map cell_bytes cells

-- the first 16 bytes: the kind, the count of cells at 2, and zeros
abbrev pub cells_front : ℕ → List ℕ
cells_front count = 3 ∷ 0 ∷ to_be_bytes w16 count ++ replicate 12 0

-- The page is a row page of these cells. The bytes behind them mean nothing.
pub record IsCellPage (page : List ℕ) (cells : List (List ℕ)) : Type 0 where
  pub front : take 16 page ≡ cells_front (length cells)
  pub content : take (length (cells_bytes cells)) (drop 16 page) ≡ cells_bytes cells
  pub fit : 16 + length (cells_bytes cells) ≤ 4096
  pub whole : length page ≡ 4096

-- The bytes begin with this cell behind its length.
pub record BeginsWithCell (bytes cell : List ℕ) : Type 0 where
  pub short : length cell < 2 ^ 16
  pub rest : List ℕ
  pub is : bytes ≡ cell_bytes cell ++ rest
