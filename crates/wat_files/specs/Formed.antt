-- Which files are those of a database: one walk over them, with what it finds, and the place at which it fails.
use Rattle.std.specs.Prelude.{◌≡◌, ◌≢◌, ◌⊎◌, ℕ, suc, ◌+◌, ◌*◌, ◌<◌, ◌≤◌, true, List, [], ◌∷◌, length, take, drop, Some, IsSome}
use Rattle.wat_disk.specs.Disk.{Image}
use Rattle.wat_gate.specs.Bodies.{bodies, gate_place, end_of, IsWhole, IsBrokenAt}
use Rattle.wat_restore.specs.Head.{Head}
use Rattle.wat_restore.specs.Restored.{IsImageLog}
use Rattle.wat_restore.specs.Opening.{IsHeadIn}
use Rattle.wat_restore.specs.Opening as opening
use Rattle.wat_book.specs.Book.{Section}
use Rattle.wat_schema.specs.Catalog.{Catalog}
use Rattle.wat_schema.specs.Stored.{IsCatalog}
use Rattle.wat_schema.specs.Tables.{Tables, catalog_of}
use Rattle.wat_log_record.specs.declared.log_record.LogRecord.{LogRecord}
use Rattle.wat_log_record.specs.Bodies.{SpellsRecords, SpellsLog}
use Rattle.wat_replay.specs.State.{State, Lists, are_apart, undone}
use Rattle.wat_replay.specs.Replay.{AppliesAll, Replays}
use Rattle.wat_replay.specs.Committed as log
use Rattle.wat_spelled.specs.Schema.{SpellsSchema}
use Rattle.wat_spelled.specs.Changes.{TellsLists}
use Rattle.wat_files.specs.Pages.{first_pages}
use Rattle.wat_files.specs.Chains.{Chains, listed, HasChains, ChainsStop}
use Rattle.wat_files.specs.Rows.{emptied, AddsPages, RowsStop, other_pages}

-- ---- what the walk finds, in its order

-- The before file is a checkpoint log, and main with its images has this header.
pub record HasHeader (files : Image) (head : Head) : Type 0 where
  pub log : IsImageLog (files 1)
  pub is : IsHeadIn files head

-- The payload of the catalog's chain is this schema, and the header has its next table number.
pub record HoldsSchema (head : Head) (payload : List ℕ) (schema : Catalog) : Type 0 where
  pub spells : SpellsSchema payload schema
  pub next : schema.next ≡ head.next_table

-- The rows of all other pages, put into the schema's tables, give these.
abbrev pub HoldsRows : Section → Head → Chains → Catalog → Tables → Type 0
HoldsRows pages head chains schema t = AddsPages pages (other_pages head.count (listed chains)) (emptied schema) t

-- the tables, and the changes of each connection that stand
abbrev pub state_of : Tables → Lists → State
state_of t lists = record { tables = t; lists = lists }

-- No row is changed by two connections, and undoing the changes in order of connection, each last change first, applies.
pub record CanUndo (s : State) : Type 0 where
  pub apart : (a b : ℕ) → a ≢ b → are_apart (catalog_of s.tables) (s.lists a) (s.lists b) ≡ true
  pub undoes : IsSome (undone s)

-- The pages stand for a state: the catalog's chain for the schema, the other chain for the changes that stand, and the rows of all other pages for the tables.
pub record Stands (pages : Section) (head : Head) (s : State) : Type 0 where
  pub chains : Chains
  pub has : HasChains pages head chains
  pub schema : Catalog
  pub holds : HoldsSchema head chains.schema schema
  pub lists : TellsLists head.rollback chains.changes s.lists
  pub catalog : IsCatalog schema
  pub rows : HoldsRows pages head chains schema s.tables
  pub undoes : CanUndo s

-- The log is a gate log. It has the frames that the header counts, and the header has the place of the gate behind them.
pub record HasLog (log : List ℕ) (head : Head) : Type 0 where
  pub whole : IsWhole log
  pub frames : head.frames ≤ length (bodies log)
  pub place : head.place ≡ gate_place log head.frames

-- the bodies behind the checkpoint
abbrev pub later_bodies : List ℕ → Head → List (List ℕ)
later_bodies log head = drop head.frames (bodies log)

-- The body spells records, which apply one after another.
pub record AppliesBody (body : List ℕ) (s next : State) : Type 0 where
  pub entries : List LogRecord
  pub spells : SpellsRecords body entries
  pub applied : AppliesAll entries s next

-- The records of these bodies, body by body, lead from the one state to the other.
abbrev pub AppliesBodies : List (List ℕ) → State → State → Type 0
AppliesBodies [] s last = s ≡ last
AppliesBodies (body ∷ rest) s last = (next : State) × AppliesBody body s next × AppliesBodies rest next last

-- Behind so many of the bodies stands the first whose records don't apply.
abbrev pub BodiesStop : List (List ℕ) → State → ℕ → Type 0
BodiesStop [] s stop = ⊥
BodiesStop (body ∷ rest) s stop =
    ((stop ≡ 0) × ((next : State) → AppliesBody body s next → ⊥)) ⊎ ((next : State) × (behind : ℕ) × AppliesBody body s next × (stop ≡ suc behind) × BodiesStop rest next behind)

-- ---- the walk

-- The files are those of a database: what opening can test, in its order.
pub record IsFormed (files : Image) : Type 0 where
  pub head : Head
  pub header : HasHeader files head
  -- what the pages of the last checkpoint stand for
  pub saved : State
  pub stands : Stands (first_pages files head.count) head saved
  pub log : HasLog (files 2) head
  -- the state behind the log's last record
  pub now : State
  pub later : AppliesBodies (later_bodies (files 2) head) saved now

-- The walk stops here, or finds something and fails behind it.
abbrev pub StopsOr : {X : Type 0} → Type 0 → (X → Type 0) → (X → Type 0) → Type 0
StopsOr {X} Stops Finds Behind = Stops ⊎ ((x : X) × Finds x × Behind x)

-- The place is that of a page of main at which the walk stops so.
pub record IsAtPage (file at : ℕ) (Stops : ℕ → Type 0) : Type 0 where
  pub page : ℕ
  pub stops : Stops page
  pub in_main : file ≡ 0
  pub place : at ≡ 4096 * page

-- The log has fewer frames than the header counts. It ends with this gate.
pub record HasFewFrames (log : List ℕ) (head : Head) (at : ℕ) : Type 0 where
  pub few : length (bodies log) < head.frames
  pub place : at ≡ end_of log

-- The header has another place than this one for the gate behind the frames that it counts.
pub record HasAnotherPlace (log : List ℕ) (head : Head) (at : ℕ) : Type 0 where
  pub frames : head.frames ≤ length (bodies log)
  pub other : head.place ≢ gate_place log head.frames
  pub place : at ≡ gate_place log head.frames

-- The log is broken at this gate; or it is whole, and has too few frames or another place.
abbrev pub LogStops : List ℕ → Head → ℕ → Type 0
LogStops log head at = IsBrokenAt log at ⊎ (IsWhole log × (HasFewFrames log head at ⊎ HasAnotherPlace log head at))

-- Behind the log's structure: the first frame past the checkpoint that spells no records, or one that doesn't apply.
pub record FailsInRecords (log : List ℕ) (head : Head) (saved : State) (file at : ℕ) : Type 0 where
  pub behind : ℕ
  pub stops : BodiesStop (later_bodies log head) saved behind
  pub in_log : file ≡ 2
  pub place : at ≡ gate_place log (head.frames + behind)

-- Behind the changes that stand: the log, as a gate log and by the header.
abbrev pub FailsInLog : List ℕ → Head → State → ℕ → ℕ → Type 0
FailsInLog log head saved file at = ((file ≡ 2) × LogStops log head at) ⊎ (HasLog log head × FailsInRecords log head saved file at)

-- Behind the rows: changes that can't be undone, at the first page of their chain.
abbrev pub FailsInUndoing : List ℕ → Head → State → ℕ → ℕ → Type 0
FailsInUndoing log head saved file at =
    IsAtPage file at (λ page. (page ≡ head.rollback) × (CanUndo saved → ⊥)) ⊎ (CanUndo saved × FailsInLog log head saved file at)

-- Behind the schema: the first of the other pages that is no row page, or has a row that can't be put into the tables.
abbrev pub FailsInRows : Section → List ℕ → Head → Chains → Catalog → Lists → ℕ → ℕ → Type 0
FailsInRows pages log head chains schema lists file at =
    StopsOr (IsAtPage file at (RowsStop pages (other_pages head.count (listed chains)) (emptied schema))) (HoldsRows pages head chains schema)
    (λ t. FailsInUndoing log head (state_of t lists) file at)

-- Behind both payloads: a schema that breaks a rule, at the first page of the catalog.
abbrev pub FailsInSchema : Section → List ℕ → Head → Chains → Catalog → Lists → ℕ → ℕ → Type 0
FailsInSchema pages log head chains schema lists file at =
    IsAtPage file at (λ page. (page ≡ head.catalog) × (IsCatalog schema → ⊥)) ⊎ (IsCatalog schema × FailsInRows pages log head chains schema lists file at)

-- Behind the catalog's payload: that of the other chain tells no changes, at its first page.
abbrev pub FailsInChanges : Section → List ℕ → Head → Chains → Catalog → ℕ → ℕ → Type 0
FailsInChanges pages log head chains schema file at =
    StopsOr (IsAtPage file at (λ page. (page ≡ head.rollback) × ((lists : Lists) → TellsLists head.rollback chains.changes lists → ⊥))) (TellsLists head.rollback chains.changes)
    (λ lists. FailsInSchema pages log head chains schema lists file at)

-- Behind the chains: the catalog's payload spells no schema, at its first page.
abbrev pub FailsInCatalog : Section → List ℕ → Head → Chains → ℕ → ℕ → Type 0
FailsInCatalog pages log head chains file at =
    StopsOr (IsAtPage file at (λ page. (page ≡ head.catalog) × ((schema : Catalog) → HoldsSchema head chains.schema schema → ⊥))) (HoldsSchema head chains.schema)
    (λ schema. FailsInChanges pages log head chains schema file at)

-- Behind the header: the first page of the two chains and the list of the free pages that isn't what it should be.
abbrev pub FailsInChains : Section → List ℕ → Head → ℕ → ℕ → Type 0
FailsInChains pages log head file at =
    StopsOr (IsAtPage file at (ChainsStop pages head)) (HasChains pages head) (λ chains. FailsInCatalog pages log head chains file at)

-- The walk over the files fails at this place of this file, and all before it is well: first the checkpoint log and the header.
abbrev pub FailsAt : Image → ℕ → ℕ → Type 0
FailsAt files file at =
    StopsOr (opening.FailsAt files file at) (HasHeader files) (λ head. FailsInChains (first_pages files head.count) (files 2) head file at)

-- ---- what formed files stand for

-- Opening the files gives these tables: the records behind the checkpoint repeated, and then the changes of all connections undone.
pub record Opens (files : Image) (t : Tables) : Type 0 where
  pub formed : IsFormed files
  pub undone : undone formed.now ≡ Some t

-- The pages stand for what the records before the checkpoint reach.
pub record Agrees (files : Image) (formed : IsFormed files) : Type 0 where
  pub earlier : List LogRecord
  pub spelled : SpellsLog (take formed.head.frames (bodies (files 2))) earlier
  pub replayed : Replays earlier formed.saved

-- The files are formed, and their pages agree with their log.
pub record IsSound (files : Image) : Type 0 where
  pub formed : IsFormed files
  pub agrees : Agrees files formed

-- The files restart to the tables that the records of their log have committed.
abbrev pub Restarts : Image → Tables → Type 0
Restarts files t = log.Restarts (bodies (files 2)) t

-- The files open to the tables to which they restart.
pub record OneStart (files : Image) : Type 0 where
  pub tables : Tables
  pub opens : Opens files tables
  pub restarts : Restarts files tables
