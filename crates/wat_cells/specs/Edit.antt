-- What becomes of a page's cells.
use Rattle.std.specs.Prelude.{ℕ, ◌<◌, List, [], ◌∷◌, ◌++◌, length, slice_set, remove}
use Rattle.wat_cells.specs.declared.edit.Edit.{Edit}
use Rattle.wat_cells.specs.declared.edit.Edit.TheVariants.{Push, Set, Remove}

abbrev pub edited : Edit → List (List ℕ) → List (List ℕ)
edited (Push cell) cells = cells ++ cell ∷ []
edited (Set i cell) cells = slice_set cells i cell
edited (Remove i) cells = remove cells i

-- the cell is there
abbrev pub CanEdit : Edit → List (List ℕ) → Type 0
CanEdit (Push cell) cells = Unit {0}
CanEdit (Set i cell) cells = i < length cells
CanEdit (Remove i) cells = i < length cells
