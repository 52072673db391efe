-- How the state of the core is tied to a state of the law of isolation.
use Rattle.std.specs.Prelude.{◌≡◌, ℕ, ◌≤◌, nat_le, true, false, is_some, slice_get, List, [], ◌∷◌, ◌++◌, map, reverse, Option, Some, None, Ok}
use Rattle.wat_list.specs.Has.{Has, IsOnce}
use Rattle.wat_value.specs.declared.change.Change.{Change}
use Rattle.wat_value.specs.Bounds.{is_above}
use Rattle.wat_value.specs.Changes.{RowName, row_name, row_before, row_after}
use Rattle.wat_value.specs.Fits.{fits, key_of}
use Rattle.wat_ast.specs.declared.statement.Statement.{Statement}
use Rattle.wat_schema.specs.Catalog.{Catalog, Listing}
use Rattle.wat_schema.specs.Stored.{IsCatalog}
use Rattle.wat_schema.specs.Tables.{Row, Tables, inverse, apply_all}
use Rattle.wat_parse.specs.declared.script.Span.{Span}
use Rattle.wat_parse.specs.Parsing.{parsed_at}
use Rattle.wat_rules.specs.Check.{check}
use Rattle.wat_expr.specs.Evaluation.{Combination}
use Rattle.wat_meaning.specs.Meaning.{sole_row}
use Rattle.wat_meaning.specs.Standing.{combination_fits, change_fits}
use Rattle.wat_isolation.specs.Logs.{Item, Item.Saw, Item.Did, Item.Looked, Item.Peeked, Alone, view}
use Rattle.wat_isolation.specs.Machine as law
use Rattle.wat_isolation.specs.Kept.{Kept}
use Rattle.wat_isolation.specs.Naming.{scheme_of}
use Rattle.wat_isolation.specs.Sql.{sql}
use Rattle.wat_isolation.specs.Vacant as vacancy
use Rattle.wat_protocol.specs.Locked.{AreHeld}
use Rattle.wat_plan.specs.Plans.{ScanPlan, listing_of_step}
use Rattle.wat_scans.specs.declared.scan.Scan.{Scan}
use Rattle.wat_scans.specs.declared.scan.Taken.{Taken}
use Rattle.wat_scans.specs.Look.{IsOf}
use Rattle.wat_scans.specs.Recorded.{IsAt, AreTaken, AllPass}
use Rattle.wat_scans.specs.Running.{Run, items_of, row_changed, defs_of}
use Rattle.wat_scans.specs.Scans.{Progress, step_key}
use Rattle.wat_scans.specs.Told.{IsStepped, IsUnderWay}
use Rattle.wat_history.specs.Connection.{Part}
use Rattle.wat_history.specs.History.{Commit}
use Rattle.wat_history.specs.Serial.{Means, Serial}
use Rattle.wat_steps.specs.State.{OpenTransaction, ConnectionState, VacantKey, CoreState, schema_of}
use Rattle.wat_steps.specs.Visiting.{writes_rows}
use Rattle.wat_tied.specs.Told.{IsTold, IsHistoryTold, ArePlainTold}

-- ---- rows, locks and vacant keys

abbrev pub left_of : VacantKey → vacancy.VacantKey sql
left_of v = record { by = v.conn; index = v.index; key = v.key }

-- The same rows now and after the commits, the locks of the law among the long ones that are held, and the vacant keys as they are kept.
pub record Relates (e : CoreState) (s : law.State sql) : Type 0 where
  pub scheme : s.scheme ≡ scheme_of (schema_of e)
  pub now : IsOf (schema_of e) s.now e.now
  pub base : IsOf (schema_of e) s.base e.committed
  pub locks : AreHeld s e.held
  pub vacant : vacancy.IsVacant sql s (map left_of e.vacant)

-- ---- changes that stand

-- the rows that the change leaves, and those that its inverse leaves, fit
pub record IsFormed (c : Catalog) (change : Change) : Type 0 where
  pub after : change_fits c change ≡ true
  pub before : change_fits c (inverse change) ≡ true

abbrev pub standing_as : Catalog → Change → law.Standing sql
standing_as c change = record { row = row_changed c change; was = row_before change; became = row_after change }

-- the changes that stand here are those that stand in the law, the last one first
pub record AreStanding (c : Catalog) (changes : List Change) (standing : List (law.Standing sql)) : Type 0 where
  pub formed : (change : Change) → Has change changes → IsFormed c change
  pub same : standing ≡ map (standing_as c) changes

abbrev pub stood_in : Option OpenTransaction → List Change
stood_in None = []
stood_in (Some t) = t.standing

abbrev pub made_in : Option Run → List Change
made_in None = []
made_in (Some run) = run.made

-- all changes of a connection that stand, the last one first
abbrev pub standing_in : Option OpenTransaction → Option Run → List Change
standing_in transaction work = reverse (stood_in transaction ++ made_in work)

-- ---- entries

-- an entry of an open transaction with its statement, and what was recorded of it, the last item first
pub record RecordedPart : Type 0 where
  pub part : Part
  pub items : List (Item sql)

-- Whatever tables what was recorded of an entry answers by: it means what it answers over them, and its acts make of them what was recorded.
pub record IsDetermined (c : Catalog) (p : RecordedPart) : Type 0 where
  pub means : (f : RowName → Option Row) (t : Tables) → IsOf c f t → Alone sql (scheme_of c) f p.items → Means 3 t p.part
  pub effect : (f : RowName → Option Row) (t : Tables) → IsOf c f t → Alone sql (scheme_of c) f p.items
      → (after : Tables) × (apply_all p.part.entry.acts t ≡ Some after) × IsOf c (view sql f p.items) after

-- the items of these entries, the last entry being first
abbrev pub items_in : List RecordedPart → List (Item sql)
items_in [] = []
items_in (p ∷ earlier) = p.items ++ items_in earlier

-- the entries in their order
abbrev pub parts_in : List RecordedPart → List Part
parts_in [] = []
parts_in (p ∷ earlier) = parts_in earlier ++ p.part ∷ []

-- ---- statements under way

-- rows that were read, and nothing else
abbrev pub AreReads : List (Item sql) → Type 0
AreReads [] = Unit {0}
AreReads (Saw scan ∷ items) = AreReads items
AreReads (Peeked r found ∷ items) = AreReads items
AreReads (Did r before after ∷ items) = ⊥
AreReads (Looked r found ∷ items) = ⊥

-- the scan is one of a step of the plan
abbrev pub IsOfStep : ScanPlan → Scan → Type 0
IsOfStep p scan = (depth : ℕ) × (slice_get p.steps depth ≡ Some scan.step)

-- each scan under way is
pub record AreOfSteps (p : ScanPlan) (w : Progress) : Type 0 where
  pub scan : (s : Scan) → w.scan ≡ Some s → IsOfStep p s
  pub taken : (t : Taken) → Has t w.taken → IsOfStep p t.scan

abbrev pub ArePlaced : ScanPlan → Option Progress → Type 0
ArePlaced p None = Unit {0}
ArePlaced p (Some w) = AreOfSteps p w

-- The statement under way is the first that is left, as its text was read and checked. Recorded of it is what it read, at level 3 its visits, and
-- then its changes.
pub record IsGoing (c : Catalog) (k : ConnectionState) (run : Run) (items : List (Item sql)) : Type 0 where
  pub span : Span
  pub more : List Span
  pub first : k.left ≡ span ∷ more
  pub written : Statement
  pub read : parsed_at k.script span ≡ Ok written
  pub statement : Statement
  pub checked : check c written ≡ Ok statement
  pub stepped : IsStepped statement
  pub level : run.level ≡ k.level
  pub visits : List (Item sql)
  pub going : IsUnderWay c statement run visits
  pub placed : ArePlaced run.task.plan run.progress
  pub reads : List (Item sql)
  pub reading : AreReads reads
  pub at_three : nat_le 3 run.level ≡ true → reads ≡ visits
  pub recorded : items ≡ items_of c run.made reads
  pub has_transaction : is_some k.transaction ≡ true

abbrev pub GoesWith : Catalog → ConnectionState → Option Run → List (Item sql) → Type 0
GoesWith c k None items = items ≡ []
GoesWith c k (Some run) items = IsGoing c k run items

-- ---- what a statement has met

-- The scans under way are at their depths in the plan, over the intervals that the rows outside them give. The rows that are taken fit, and so
-- do those of each combination that passed.
pub record IsMeeting (p : ScanPlan) (w : Progress) : Type 0 where
  pub at : IsAt p w.scan w.taken
  pub outside : AreTaken p w.taken
  pub taken : (t : Taken) → Has t w.taken → fits (listing_of_step p t.scan.step).def t.row ≡ true
  pub met : (d : Combination) → Has d w.met → combination_fits (defs_of p) d ≡ true

-- none of the changes is of this row
abbrev pub IsUnchanged : List Change → Row → Type 0
IsUnchanged made row = (change : Change) → Has change made → row_before change ≡ Some row → ⊥

-- A row to be updated or deleted: the connection holds Write on it, and until it is changed it stands as it was met.
pub record IsAimedAt (s : law.State sql) (c : ℕ) (l : Listing) (made : List Change) (row : Row) : Type 0 where
  pub write : Has (law.Lock.Write (row_name l.def row)) (s.conns c).locks
  pub stands : IsUnchanged made row → s.now (row_name l.def row) ≡ Some row

-- The rows that an UPDATE or DELETE has met, each once; the scan goes on behind them.
pub record AreAims (s : law.State sql) (c : ℕ) (p : ScanPlan) (l : Listing) (made : List Change) (w : Progress) : Type 0 where
  pub each : (d : Combination) → Has d w.met → (row : Row) × (d ≡ Some row ∷ []) × IsAimedAt s c l made row
  pub once : IsOnce (map (λ d. key_of l.def (sole_row d)) w.met)
  pub before : (scan : Scan) → w.scan ≡ Some scan → (d : Combination) → Has d w.met → is_above scan.from (step_key p scan.step d) ≡ false

pub record HasMet (s : law.State sql) (c : ℕ) (run : Run) (w : Progress) : Type 0 where
  pub meeting : IsMeeting run.task.plan w
  pub passes : AllPass run.task.plan w.met
  pub aims : writes_rows run.task.statement ≡ true → (l : Listing) → run.task.plan.sources ≡ l ∷ [] → AreAims s c run.task.plan l run.made w

abbrev pub HasMetSo : law.State sql → ℕ → Run → Option Progress → Type 0
HasMetSo s c run None = Unit {0}
HasMetSo s c run (Some w) = HasMet s c run w

-- at every level, whatever the other connections did since then
abbrev pub MeetsWith : law.State sql → ℕ → Option Run → Type 0
MeetsWith s c None = Unit {0}
MeetsWith s c (Some run) = HasMetSo s c run run.progress

-- ---- the whole

-- What stands beside the core's state: a state of the law of isolation; of each connection the entries of its open transaction, the last one first,
-- and what is recorded of its statement under way; and the committed transactions in their order.
pub record Ghost : Type 0 where
  pub state : law.State sql
  pub entries : ℕ → List RecordedPart
  pub work : ℕ → List (Item sql)
  pub history : List Commit

-- with no transaction open there is nothing
abbrev pub IsIdle : law.Connection sql → List RecordedPart → List (Item sql) → Option OpenTransaction → Type 0
IsIdle k entries work None = (k ≡ law.idle sql) × (entries ≡ []) × (work ≡ [])
IsIdle k entries work (Some t) = Unit {0}

-- one of the connections that there are
pub record IsInside (e : CoreState) (c : ℕ) : Type 0 where
  pub from_one : 1 ≤ c
  pub within : c ≤ e.count

-- it has nothing to do, and no transaction open
pub record IsAbsent (k : ConnectionState) : Type 0 where
  pub no_transaction : k.transaction ≡ None
  pub none_left : k.left ≡ []

pub record Ties (e : CoreState) (g : Ghost) : Type 0 where
  pub schema : IsCatalog (schema_of e)
  pub kept : Kept sql g.state
  pub relates : Relates e g.state
  pub log : (c : ℕ) → (g.state.conns c).log ≡ g.work c ++ items_in (g.entries c)
  pub standing : (c : ℕ) → AreStanding (schema_of e) (standing_in (e.connections c).transaction (e.connections c).work) (g.state.conns c).standing
  pub idle : (c : ℕ) → IsIdle (g.state.conns c) (g.entries c) (g.work c) (e.connections c).transaction
  pub parts : (c : ℕ) (p : RecordedPart) → Has p (g.entries c) → IsDetermined (schema_of e) p
  pub serial : Serial 3 e.base g.history e.committed
  -- the transcripts tell of these entries and commits
  pub told : (c : ℕ) → IsTold (e.connections c) (parts_in (g.entries c))
  pub history : IsHistoryTold e g.history
  pub plain : ArePlainTold e g.history
  pub outside : (c : ℕ) → (IsInside e c → ⊥) → IsAbsent (e.connections c)
  -- until a stop
  pub works : e.stop ≡ None → (c : ℕ) → GoesWith (schema_of e) (e.connections c) (e.connections c).work (g.work c)
  pub meets : e.stop ≡ None → (c : ℕ) → MeetsWith g.state c (e.connections c).work

-- such a ghost stands beside the core's state
pub record IsTied (e : CoreState) : Type 0 where
  pub ghost : Ghost
  pub ties : Ties e ghost
