-- What is known of a statement under way, from its visits and changes as they were recorded, and what it is answered.
use Rattle.std.specs.Prelude.{◌≡◌, true, List, [], ◌∷◌, ◌++◌, map, is_some, ◌⊎◌, Option, Some, None, Ok}
use Rattle.std.specs.List.{list_all}
use Rattle.wat_value.specs.declared.change.Change.{Change}
use Rattle.wat_value.specs.declared.change.Act.TheVariants.{OnRow}
use Rattle.wat_value.specs.Changes.{RowName}
use Rattle.wat_ast.specs.declared.query.Query.{Query}
use Rattle.wat_ast.specs.declared.statement.Statement.{Statement}
use Rattle.wat_ast.specs.declared.statement.Statement.TheVariants.{Insert, Update, Delete, Select}
use Rattle.wat_schema.specs.declared.refusal.Refusal.{Refusal}
use Rattle.wat_schema.specs.Catalog.{Catalog, listing_named}
use Rattle.wat_schema.specs.Tables.{Row, Tables}
use Rattle.wat_rules.specs.Check.{check}
use Rattle.wat_expr.specs.Evaluation.{Combination}
use Rattle.wat_meaning.specs.declared.reply.Reply.{Reply}
use Rattle.wat_meaning.specs.Meaning.{Made.Changing, refusal_meaning, meaning_checked}
use Rattle.wat_isolation.specs.Logs.{Item, Item.Saw, Item.Did, Item.Looked, Item.Peeked, Alone}
use Rattle.wat_isolation.specs.Naming.{scheme_of}
use Rattle.wat_isolation.specs.Sql.{sql}
use Rattle.wat_plan.specs.Plans.{ScanPlan}
use Rattle.wat_scans.specs.Look.{RowsFit}
use Rattle.wat_scans.specs.Recorded.{IsSoFar, IsSoFarOrFails, Fails}
use Rattle.wat_scans.specs.Running.{Run, Next.ToRefuse, Next.ToReply, made_by, next, task_of}
use Rattle.wat_scans.specs.Scans.{Progress}

-- INSERT, UPDATE, DELETE and SELECT are made in steps.
abbrev pub IsStepped : Statement → Type 0
IsStepped (Insert table columns source) = Unit {0}
IsStepped (Update table sets filter) = Unit {0}
IsStepped (Delete table filter) = Unit {0}
IsStepped (Select q) = Unit {0}
IsStepped s = ⊥

-- the checks gave it of some statement
abbrev pub IsChecked : Catalog → Statement → Type 0
IsChecked c s = (written : Statement) × (check c written ≡ Ok s)

-- the tables of the sources stand
abbrev pub AreNamed : Catalog → Query → Type 0
AreNamed c q = list_all (λ source. is_some (listing_named c source.table)) q.sources ≡ true

-- All visits are made, with these combinations met; or one failed.
abbrev pub Ended : (RowName → Option Row) → ScanPlan → Option (List Combination) → Type 0
Ended f p None = Fails f p
Ended f p (Some met) = IsSoFar f p (record { scan = None; taken = []; met = met })

-- visits alone
abbrev pub AreVisits : List (Item sql) → Type 0
AreVisits [] = Unit {0}
AreVisits (Saw s ∷ items) = AreVisits items
AreVisits (Did r b a ∷ items) = ⊥
AreVisits (Looked r v ∷ items) = ⊥
AreVisits (Peeked r v ∷ items) = ⊥

-- changes were made after the last visit, and these are the first of those that the statement makes
pub record HasChanged (run : Run) : Type 0 where
  pub at : Progress
  pub left : List Change
  pub reply : Reply
  pub progress : run.progress ≡ Some at
  pub none : at.scan ≡ None
  pub front : made_by run.task at.met run.task.statement ≡ Ok (Changing reply (run.made ++ left))

abbrev pub MadeSoFar : Run → Type 0
MadeSoFar run = (run.made ≡ []) ⊎ HasChanged run

-- A statement under way, with its visits as they were recorded, the newest first: over every tables by which they answer, its scans are as
-- these tables give it.
pub record IsUnderWay (c : Catalog) (s : Statement) (run : Run) (visits : List (Item sql)) : Type 0 where
  pub task : run.task ≡ task_of c s
  pub visits_alone : AreVisits visits
  pub explained : (f : RowName → Option Row) → RowsFit c f → Alone sql (scheme_of c) f visits → IsSoFarOrFails f run.task.plan run.progress
  pub made : MadeSoFar run

-- what the statement is answered next is its meaning: a reply with the changes made as its acts, or a refusal
pub record Says (t : Tables) (s : Statement) (run : Run) : Type 0 where
  pub replies : (r : Reply) → next run ≡ ToReply r → meaning_checked t s ≡ record { answer = r; acts = map OnRow run.made }
  pub refuses : (x : Refusal) → next run ≡ ToRefuse x → meaning_checked t s ≡ refusal_meaning x
