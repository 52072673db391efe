-- The changes that a statement is to make, as they are kept, and what is next. Only functions within the crate cite this.
use Rattle.std.specs.Prelude.{◌≡◌, ◌≤◌, ℕ, Bool, true, false, List, [], ◌∷◌, ◌++◌, length, take, drop, Option, Some, None, Ok, if◌then◌else◌}
use Rattle.wat_value.specs.declared.value.Value.{Value}
use Rattle.wat_value.specs.declared.change.Change.{Change}
use Rattle.wat_meaning.specs.Meaning.{Made.Changing}
use Rattle.wat_schema.specs.Catalog.{Listing}
use Rattle.wat_isolation.specs.Naming.{same_key}
use Rattle.wat_level.specs.declared.change.Spot.{Spot}
use Rattle.wat_scans.specs.Running.{Next, Next.ToVisit, Next.ToChange, Next.ToRefuse, Next.ToReply, Task, change_next, made_by}
use Rattle.wat_scans.specs.Scans.{Progress}
use Rattle.wat_changing.specs.Decided.{reply_of}
use Rattle.wat_visits.specs.Sourced.{Sourced}
use Rattle.wat_exec.specs.Asked.{IsSpot, Moves}
use Rattle.wat_exec.specs.declared.noticed.Noticed.{Noticed}
use Rattle.wat_exec.specs.declared.noticed.Noticed.TheVariants.{AtPlace, AtRow}
use Rattle.wat_exec.specs.declared.changes.Changes.{Changes}
use Rattle.wat_exec.specs.declared.changes.Step.{Step}
use Rattle.wat_exec.specs.declared.changes.Step.TheVariants as step

-- those that are made
abbrev pub made_in : Option Changes → List Change
made_in None = []
made_in (Some c) = take c.made c.all.items

-- all visits are made, and the changes are what the statement makes of what was met
pub record AreMade (task : Task) (progress : Option Progress) (c : Changes) : Type 0 where
  pub within : c.made ≤ length c.all.items
  pub at : Progress
  pub progress_is : progress ≡ Some at
  pub none : at.scan ≡ None
  pub are : made_by task at.met task.statement ≡ Ok (Changing (reply_of c.counted (length c.all.items)) c.all.items)

abbrev pub AreKept : Task → Option Progress → Option Changes → Type 0
AreKept task progress None = Unit {0}
AreKept task progress (Some c) = AreMade task progress c

-- where a change was asked, changes are kept
abbrev pub AreAsked : Option Noticed → Option Changes → Type 0
AreAsked (Some (AtRow standing)) None = ⊥
AreAsked (Some (AtRow standing)) (Some c) = Unit {0}
AreAsked (Some (AtPlace seen)) kept = Unit {0}
AreAsked None kept = Unit {0}

-- a change is next only where changes are kept
abbrev pub KeepsAsked : Option Changes → Step → Type 0
KeepsAsked (Some c) next = Unit {0}
KeepsAsked None (step.Change change) = ⊥
KeepsAsked None step.Visit = Unit {0}
KeepsAsked None (step.Refuse refusal) = Unit {0}
KeepsAsked None (step.Reply reply) = Unit {0}

-- what is next, where a visit is seen by the scans
abbrev pub step_of : Next → Step
step_of (ToVisit s ts met) = step.Visit
step_of (ToChange change) = step.Change change
step_of (ToRefuse refusal) = step.Refuse refusal
step_of (ToReply reply) = step.Reply reply

-- the next of changes, of which some are made
abbrev pub left_in : Changes → Next
left_in c = change_next (reply_of c.counted (length c.all.items)) (drop c.made c.all.items)

-- the key that is left where another is come to
abbrev pub moved_from : Option (List Value) → Option (List Value) → Option (List Value)
moved_from None enters = None
moved_from (Some key) None = Some key
moved_from (Some key) (Some other) = if same_key key other then None else Some key

-- the spot of a change in an index, or none where it moves no key there
abbrev pub IsSpotIn : (Sourced → Type 0) → Listing → Change → ℕ → Option Spot → Type 0
IsSpotIn Tells l change index None = (key : List Value) → Moves l change index key → ⊥
IsSpotIn Tells l change index (Some spot) = (spot.index ≡ index) × IsSpot Tells l change spot
