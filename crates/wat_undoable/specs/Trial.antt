-- The rows of which changes were undone.
use Rattle.std.specs.Prelude.{◌≡◌, ℕ, ◌<◌, ◌==◌, ◌&&◌, length, slice_get, List, Option, Some, None, if◌then◌else◌}
use Rattle.std.specs.Option.{option_and_then}
use Rattle.wat_value.specs.Order.{key_eq}
use Rattle.wat_rows.specs.Rows.{Row, RowMap}
use Rattle.wat_directory.specs.Known.{place_in}
use Rattle.wat_undoable.specs.declared.trial.Trial.{Trial}
use Rattle.wat_undoable.specs.declared.trial.Undone.{Undone}

-- what is known of a row
abbrev pub undone_at : Trial → ℕ → Row → Option Undone
undone_at trial table key = option_and_then (slice_get trial.rows.items) (place_in trial.places table key)

-- each row that has a place is kept there
abbrev pub IsPlaced : Trial → Type 0
IsPlaced trial = (table : ℕ) (key : Row) (place : ℕ) → place_in trial.places table key ≡ Some place → place < length trial.rows.items

-- nothing is known of any row
pub record IsNew (trial : Trial) : Type 0 where
  pub placed : IsPlaced trial
  pub none : (table : ℕ) (key : Row) → undone_at trial table key ≡ None

-- This is known of the row now, and of all others what was.
pub record SetsUndone (table : ℕ) (key : Row) (undone : Undone) (old new : Trial) : Type 0 where
  pub placed : IsPlaced new
  pub at : (t : ℕ) (k : Row) → undone_at new t k ≡ (if (table == t) && key_eq key k then Some undone else undone_at old t k)

-- a row now: as it is after changes were undone, or else as it stands
abbrev pub row_on : Option Undone → Option Row → Option Row
row_on None row = row
row_on (Some undone) row = undone.row

abbrev pub row_now : Trial → RowMap → ℕ → Row → Option Row
row_now trial rows table key = row_on (undone_at trial table key) (rows table key)
