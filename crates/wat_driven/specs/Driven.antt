-- A statement that is driven over rows that nothing but its own changes alters.
use Rattle.std.specs.Prelude.{◌≡◌, ℕ, List, [], ◌∷◌, Option, None}
use Rattle.wat_value.specs.Changes.{RowName, row_after, row_before}
use Rattle.wat_ast.specs.declared.statement.Statement.{Statement}
use Rattle.wat_schema.specs.Catalog.{Catalog}
use Rattle.wat_schema.specs.Tables.{Row}
use Rattle.wat_isolation.specs.Rows.{set_row}
use Rattle.wat_isolation.specs.Sql.{sql}
use Rattle.wat_scans.specs.Recorded.{HasWidth, index_of_step}
use Rattle.wat_scans.specs.Running.{Run, Next.ToChange, Next.ToVisit, after_change, after_visit, begin, next, row_changed}
use Rattle.wat_scans.specs.Sources.{IsSeen}
use Rattle.wat_scans.specs.Still.{Granted, Granted.Changed, Granted.Visited}

-- These steps, the newest first, lead from the begin of the statement over the rows `f` to this run and to these rows. What each visit found is what
-- stood in the rows of its moment; a row that was inserted found its name free there; and the rows were altered by its changes alone.
abbrev pub Drives : Catalog → (RowName → Option Row) → ℕ → Statement → List Granted → Run → (RowName → Option Row) → Type 0
Drives c f level s [] run rows = (run ≡ begin c level s) × (rows ≡ f)
Drives c f level s (Visited scan ts met seen vacant ∷ more) run rows =
    (before : Run) × Drives c f level s more before rows × (next before ≡ ToVisit scan ts met)
    × IsSeen c rows vacant (index_of_step before.task.plan scan.step) scan seen × HasWidth before.task.plan scan.step seen.place
    × (run ≡ after_visit before scan ts met seen)
Drives c f level s (Changed change ∷ more) run rows =
    (before : Run) × (earlier : RowName → Option Row) × Drives c f level s more before earlier × (next before ≡ ToChange change)
    × (row_before change ≡ None → earlier (row_changed c change) ≡ None)
    × (run ≡ after_change before change) × (rows ≡ set_row sql earlier (row_changed c change) (row_after change))
