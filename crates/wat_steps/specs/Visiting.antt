-- A visit of a scan.
use Rattle.std.specs.Prelude.{◌≡◌, ℕ, ◌==◌, Bool, true, false, not, ◌&&◌, List, length, Option, Some, None}
use Rattle.std.specs.List.{filter}
use Rattle.wat_ast.specs.declared.statement.Statement.{Statement}
use Rattle.wat_ast.specs.declared.statement.Statement.TheVariants.{Update, Delete}
use Rattle.wat_schema.specs.declared.refusal.Refusal.TheVariants.{Arithmetic}
use Rattle.wat_expr.specs.Evaluation.{Combination}
use Rattle.wat_isolation.specs.Sql.{IndexName}
use Rattle.wat_locks.specs.declared.want.Want.{Want}
use Rattle.wat_locks.specs.declared.held.Held.{Held}
use Rattle.wat_locks.specs.Held.{is_for}
use Rattle.wat_level.specs.Visit.{visit_wants}
use Rattle.wat_conn.specs.declared.answer.Answer.TheVariants.{Refused}
use Rattle.wat_scans.specs.declared.scan.Scan.{Scan}
use Rattle.wat_scans.specs.declared.scan.Seen.{Seen}
use Rattle.wat_scans.specs.declared.scan.Taken.{Taken}
use Rattle.wat_scans.specs.Look.{look}
use Rattle.wat_scans.specs.Recorded.{index_of_step}
use Rattle.wat_scans.specs.Running.{Run, after_visit}
use Rattle.wat_scans.specs.Scans.{Progress}
use Rattle.wat_scans.specs.Sources as sources
use Rattle.wat_visits.specs.Asked.{visit_of}
use Rattle.wat_steps.specs.State.{CoreState, Progressed, Progressed.Moved, Progressed.Answered, schema_of, vacant_keys}
use Rattle.wat_steps.specs.Answering.{IsSame}
use Rattle.wat_steps.specs.Asking.{refused, Asks, with_locks, going_on}

-- the first position that the scan's bound admits, and in its interval the row that stands there now
abbrev pub IsSeen : CoreState → IndexName → Scan → Seen → Type 0
IsSeen e i scan seen = sources.IsSeen (schema_of e) (look e.now) (vacant_keys e) i scan seen

-- the statement writes the rows that it scans
abbrev pub writes_rows : Statement → Bool
writes_rows (Update table sets filter) = true
writes_rows (Delete table filter) = true
writes_rows statement = false

-- what the visit asks
abbrev pub wants_of : Run → Scan → List Taken → Seen → List Want
wants_of run scan taken seen = visit_wants run.level (visit_of run.task.plan (writes_rows run.task.statement) scan taken seen)

-- the short locks of the scan's earlier visits are freed; a scan's number is its depth
abbrev pub without_visit : ℕ → ℕ → CoreState → CoreState
without_visit c scan e = record e { held = filter (λ (h : Held). not ((h.conn == c) && is_for scan h.short)) e.held }

-- the scans go on, unless WHERE had an error
abbrev pub seen_by : ℕ → CoreState → Run → Option Progress → Progressed × CoreState
seen_by c e run None = (Answered, refused c e run (Refused Arithmetic))
seen_by c e run (Some progress) = (Moved, going_on c run e)

-- the visit is made: the locks on what it saw come, and those of the scan's last visit that were short go
abbrev pub visited : ℕ → CoreState → Run → Scan → List Taken → List Combination → Seen → Progressed × CoreState
visited c e run scan taken met seen =
    let later = after_visit run scan taken met seen in
    seen_by c (with_locks c (wants_of run scan taken seen) (without_visit c (length taken) e)) later later.progress

abbrev pub IsVisit : ℕ → CoreState → Run → Scan → List Taken → List Combination → Progressed → CoreState → Type 0
IsVisit c e run scan taken met a after =
    (seen : Seen) × IsSeen e (index_of_step run.task.plan scan.step) scan seen
    × Asks c e run (wants_of run scan taken seen) (λ b later. let r = visited c e run scan taken met seen in (b ≡ r.0) × IsSame r.1 later) a after
