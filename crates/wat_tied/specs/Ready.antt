-- The next change of a statement may be made as it says.
use Rattle.std.specs.Prelude.{◌≡◌, Some}
use Rattle.wat_value.specs.declared.change.Change.{Change}
use Rattle.wat_value.specs.Changes.{row_before}
use Rattle.wat_schema.specs.Tables.{Row}
use Rattle.wat_scans.specs.Look.{look}
use Rattle.wat_scans.specs.Running.{row_changed}
use Rattle.wat_steps.specs.State.{CoreState, schema_of}
use Rattle.wat_tied.specs.Tied.{IsFormed}

-- the rows that it leaves, and those that its inverse leaves, fit; and the row that it finds is now as it says
pub record IsReadyFor (e : CoreState) (change : Change) : Type 0 where
  pub formed : IsFormed (schema_of e) change
  pub stands : (row : Row) → row_before change ≡ Some row → look e.now (row_changed (schema_of e) change) ≡ Some row
