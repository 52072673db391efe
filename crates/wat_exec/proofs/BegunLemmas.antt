-- The plans that a statement begins with.
use Rattle.std.proofs.Common.{◌≡◌, ℕ, List, [], ◌∷◌, Option, Some, None, refl, ap, ap₂, ◌∙◌, slice_get}
use Rattle.std.specs.List.{cons_option}
use Rattle.std.specs.Option.{option_map_or}
use Rattle.wat_ast.specs.declared.statement.Statement.{Statement}
use Rattle.wat_meaning.specs.Meaning.{rows_where, scanned}
use Rattle.wat_schema.specs.Catalog.{Catalog, Listing, Name, listing_named}
use Rattle.wat_plan.specs.Plans.{ScanPlan, plan_of}
use Rattle.wat_scans.specs.Running.{begin, no_plan, target_of, task_of}
use Rattle.wat_scans.specs.Scans.{begun}
use Rattle.wat_visits.specs.Nesting.{Nesting}
use Rattle.wat_exec.specs.Stepping.{Stepping, target_in}

-- the plan of no source
pub no_plan_is : (c : Catalog) → plan_of c no_plan.query ≡ no_plan
unfolding plan_of
no_plan_is c = refl

first_of : (o : Option Listing) → slice_get (cons_option o []) 0 ≡ o
first_of None = refl
first_of (Some l) = refl

-- the one source of the plan of all rows of a table is that table
pub target_is : (c : Catalog) (table : Name) → target_in (Some (plan_of c (rows_where table None))) ≡ listing_named c table
unfolding plan_of
target_is c table = first_of (listing_named c table)

-- a statement with these plans before its first step
abbrev pub first_stepping : Statement → ℕ → Option Listing → Nesting → Stepping
first_stepping s level target n = record { run = record { task = record { statement = s; plan = n.plan; target = target }; level = level; progress = n.progress; made = [] }; noticed = None }

abbrev nesting_of : ScanPlan → Nesting
nesting_of p = record { plan = p; progress = begun p }

pub begin_is : (c : Catalog) (level : ℕ) (s : Statement) (plan : ScanPlan) (target : Option Listing) (n : Nesting) → plan ≡ option_map_or (plan_of c) (scanned s) no_plan → target ≡ target_of c s → n ≡ nesting_of plan
    → first_stepping s level target n ≡ record { run = begin c level s; noticed = None }
unfolding begin task_of
begin_is c level s plan target n planned aimed nested =
    ap (first_stepping s level target) nested ∙ ap₂ (λ (p : ScanPlan) (t : Option Listing). first_stepping s level t (nesting_of p)) planned aimed
