-- What contracts see of a statement under way.
use Rattle.std.specs.Prelude.{Bool, true, false, slice_get, Option}
use Rattle.std.specs.Option.{option_and_then}
use Rattle.wat_ast.specs.declared.statement.Statement.{Statement}
use Rattle.wat_ast.specs.declared.statement.Statement.TheVariants.{Update, Delete}
use Rattle.wat_schema.specs.Catalog.{Listing}
use Rattle.wat_plan.specs.Plans.{ScanPlan}
use Rattle.wat_scans.specs.Running.{Run}
use Rattle.wat_exec.specs.declared.noticed.Noticed.{Noticed}

-- the run, and what was noticed when it was last asked what is next
pub record Stepping : Type 0 where
  pub run : Run
  pub noticed : Option Noticed

-- the table that is written, in the plan of its rows
abbrev pub target_in : Option ScanPlan → Option Listing
target_in plan = option_and_then (λ (p : ScanPlan). slice_get p.sources 0) plan

-- the statement writes the rows that it scans
abbrev pub writes_rows : Statement → Bool
writes_rows (Update table sets filter) = true
writes_rows (Delete table filter) = true
writes_rows s = false
