-- A statement that is run while nothing but its own changes alters the rows.
use Rattle.std.specs.Prelude.{◌≡◌, ℕ, List, [], ◌∷◌, Option, Some, None}
use Rattle.wat_value.specs.declared.value.Value.{Value}
use Rattle.wat_value.specs.declared.change.Change.{Change}
use Rattle.wat_value.specs.Changes.{RowName, row_before}
use Rattle.wat_ast.specs.declared.statement.Statement.{Statement}
use Rattle.wat_schema.specs.Catalog.{Catalog}
use Rattle.wat_schema.specs.Tables.{Row}
use Rattle.wat_expr.specs.Evaluation.{Combination}
use Rattle.wat_isolation.specs.Logs.{Item, view}
use Rattle.wat_isolation.specs.Sql.{sql, IndexName}
use Rattle.wat_scans.specs.declared.scan.Scan.{Scan}
use Rattle.wat_scans.specs.declared.scan.Seen.{Seen}
use Rattle.wat_scans.specs.declared.scan.Taken.{Taken}
use Rattle.wat_scans.specs.Recorded.{HasWidth, index_of_step}
use Rattle.wat_scans.specs.Running.{Run, Next.ToChange, begin, next, after_visit, after_change, visit_item, row_changed, items_of}
use Rattle.wat_scans.specs.Sources.{IsSeen}

-- a step that was granted: a visit, with the keys that were vacant then, or a change, which was made
pub data Granted : Type 0 where
  Visited : Scan → List Taken → List Combination → Seen → List (IndexName × List Value) → Granted
  Changed : Change → Granted

-- These steps, the newest first, lead from the begin of the statement to this run, with these visits recorded. Each visit saw the rows that stood
-- when the statement began; each row that was inserted found its name free among them and the rows changed so far.
abbrev pub LeadsTo : Catalog → (RowName → Option Row) → ℕ → Statement → List Granted → Run → List (Item sql) → Type 0
LeadsTo c f level s [] run visits = (run ≡ begin c level s) × (visits ≡ [])
LeadsTo c f level s (Visited scan ts met seen vacant ∷ more) run visits =
    (before : Run) × (earlier : List (Item sql)) × LeadsTo c f level s more before earlier
    × (before.progress ≡ Some (record { scan = Some scan; taken = ts; met = met }))
    × IsSeen c f vacant (index_of_step before.task.plan scan.step) scan seen × HasWidth before.task.plan scan.step seen.place
    × (run ≡ after_visit before scan ts met seen) × (visits ≡ visit_item before scan seen ∷ earlier)
LeadsTo c f level s (Changed change ∷ more) run visits =
    (before : Run) × LeadsTo c f level s more before visits × (next before ≡ ToChange change)
    × (row_before change ≡ None → view sql f (items_of c before.made visits) (row_changed c change) ≡ None)
    × (run ≡ after_change before change)
