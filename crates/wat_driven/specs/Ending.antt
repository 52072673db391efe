-- How many steps a statement can still take, where each index has its positions among a list of keys.
use Rattle.std.specs.Prelude.{◌≡◌, ℕ, suc, ◌+◌, ◌*◌, ◌-◌, List, [], ◌∷◌, length, drop, filter, Option, Some, None, Result, Ok, Err}
use Rattle.wat_list.specs.Has.{Has}
use Rattle.wat_value.specs.declared.value.Value.{Value}
use Rattle.wat_value.specs.Bounds.{is_above}
use Rattle.wat_value.specs.Changes.{RowName}
use Rattle.wat_schema.specs.declared.refusal.Refusal.{Refusal}
use Rattle.wat_schema.specs.Catalog.{Catalog}
use Rattle.wat_schema.specs.Tables.{Row}
use Rattle.wat_meaning.specs.Meaning.{Made, Made.Altering, Made.Changing, Made.Shown}
use Rattle.wat_isolation.specs.Sql.{IndexName}
use Rattle.wat_plan.specs.declared.choice.PlanStep.{PlanStep}
use Rattle.wat_plan.specs.Plans.{ScanPlan}
use Rattle.wat_scans.specs.declared.scan.Scan.{Scan}
use Rattle.wat_scans.specs.declared.scan.Taken.{Taken}
use Rattle.wat_scans.specs.Recorded.{index_of_step}
use Rattle.wat_scans.specs.Running.{Run, made_by}
use Rattle.wat_scans.specs.Scans.{Progress}
use Rattle.wat_scans.specs.Sources.{IsPosition}

-- keys for each index
abbrev pub Keys : Type 0
Keys = IndexName → List (List Value)

-- the positions of each index are among its keys
abbrev pub HasPositions : Keys → Catalog → (RowName → Option Row) → List (IndexName × List Value) → Type 0
HasPositions keys c rows vacant = (i : IndexName) (x : List Value) → IsPosition c rows vacant i x → Has x (keys i)

-- ---- visits

-- what a scan with so many keys ahead visits at most, where a row at each of them begins scans that make so many visits: each key once, and the end
abbrev pub visits_over : ℕ → ℕ → ℕ
visits_over ahead below = suc (ahead + ahead * below)

-- the visits of a scan of the first of these steps, and of the scans of the others below it, at most
abbrev pub visits_of : Keys → ScanPlan → List PlanStep → ℕ
visits_of keys p [] = 0
visits_of keys p (step ∷ steps) = visits_over (length (keys (index_of_step p step))) (visits_of keys p steps)

-- the keys that lie ahead of a scan
abbrev pub ahead : Keys → ScanPlan → Scan → ℕ
ahead keys p s = length (filter (is_above s.from) (keys (index_of_step p s.step)))

-- the visits that are left to a scan and to those below it, at most
abbrev pub visits_in : Keys → ScanPlan → Scan → List Taken → ℕ
visits_in keys p s ts = visits_over (ahead keys p s) (visits_of keys p (drop (length ts + 1) p.steps))

abbrev pub visits_outside : Keys → ScanPlan → List Taken → ℕ
visits_outside keys p [] = 0
visits_outside keys p (t ∷ ts) = visits_in keys p t.scan ts + visits_outside keys p ts

abbrev pub visits_under : Keys → ScanPlan → Option Scan → List Taken → ℕ
visits_under keys p None ts = 0
visits_under keys p (Some s) ts = visits_in keys p s ts + visits_outside keys p ts

abbrev pub visits_at : Keys → ScanPlan → Option Progress → ℕ
visits_at keys p None = 0
visits_at keys p (Some w) = visits_under keys p w.scan w.taken

-- the visits that are left to a statement, at most
unfoldable pub visits_left : Keys → Run → ℕ
visits_left keys run = visits_at keys run.task.plan run.progress

-- ---- changes

abbrev pub changes_in : Result Made Refusal → ℕ
changes_in (Err refusal) = 0
changes_in (Ok (Shown rows)) = 0
changes_in (Ok (Changing reply changes)) = length changes
changes_in (Ok (Altering reply alteration)) = 0

abbrev pub changes_at : Run → Option Progress → ℕ
changes_at run None = 0
changes_at run (Some w) = changes_in (made_by run.task w.met run.task.statement) - length run.made

-- the changes that are left to a statement of which all visits are made
unfoldable pub changes_left : Run → ℕ
changes_left run = changes_at run run.progress
