-- The walk over files goes one way: it comes to its end or stops, never both, and it stops at one place.
use Rattle.std.proofs.Common.{◌≡◌, ◌≢◌, ◌⊎◌, ⊎_elim, inl, inr, ℕ, ◌+◌, ◌*◌, ◌<◌, ◌≤◌, List, length, Some, refl, sym, ◌∙◌, ap, subst, arith}
use Rattle.wat_disk.specs.Disk.{Image}
use Rattle.wat_gate.specs.Bodies.{bodies, gate_place, end_of, IsWhole, IsBrokenAt}
use Rattle.wat_restore.specs.Head.{Head}
use Rattle.wat_restore.specs.Opening as opening
use Rattle.wat_book.specs.Book.{Section}
use Rattle.wat_schema.specs.Catalog.{Catalog}
use Rattle.wat_schema.specs.Stored.{IsCatalog}
use Rattle.wat_schema.specs.Tables.{Tables}
use Rattle.wat_replay.specs.State.{State, Lists, undone}
use Rattle.wat_spelled.specs.Changes.{TellsLists}
use Rattle.wat_spelled.proofs.Spelling.{told_once}
use Rattle.wat_files.specs.Pages.{first_pages}
use Rattle.wat_files.specs.Chains.{Chains, listed, HasChains, ChainsStop}
use Rattle.wat_files.specs.Rows.{emptied, AddsPages, RowsStop, other_pages}
use Rattle.wat_files.specs.Formed
use Rattle.wat_files.proofs.Finding.{header_once, holds_once, chains_once, chains_or_stop, chains_stop_once, rows_once, rows_or_stop, rows_stop_once, bodies_once, bodies_or_stop, bodies_stop_once}
use Rattle.wat_files.proofs.Opening.{Same, not_broken, header_or_stop, head_stop_once}

-- ---- the log by the header

pub log_or_stop : (log : List ℕ) (head : Head) (at : ℕ) → Formed.HasLog log head → Formed.LogStops log head at → ⊥
log_or_stop log head at x y = ⊎_elim
    (λ (broken : IsBrokenAt log at). not_broken log at broken x.whole)
    (λ (later : IsWhole log × (Formed.HasFewFrames log head at ⊎ Formed.HasAnotherPlace log head at)). ⊎_elim
    (λ (short : Formed.HasFewFrames log head at). omega (arith, short.few, x.frames))
    (λ (other : Formed.HasAnotherPlace log head at). other.other x.place)
    later.1)
    y

frames_once : (log : List ℕ) (head : Head) (a b : ℕ) → Formed.HasFewFrames log head a ⊎ Formed.HasAnotherPlace log head a → Formed.HasFewFrames log head b ⊎ Formed.HasAnotherPlace log head b → a ≡ b
frames_once log head a b x y = ⊎_elim
    (λ (short : Formed.HasFewFrames log head a). ⊎_elim
    (λ (other : Formed.HasFewFrames log head b). short.place ∙ sym other.place)
    (λ (other : Formed.HasAnotherPlace log head b). absurd (omega (arith, short.few, other.frames)))
    y)
    (λ (place : Formed.HasAnotherPlace log head a). ⊎_elim
    (λ (other : Formed.HasFewFrames log head b). absurd (omega (arith, other.few, place.frames)))
    (λ (other : Formed.HasAnotherPlace log head b). place.place ∙ sym other.place)
    y)
    x

pub log_stop_once : (log : List ℕ) (head : Head) (a b : ℕ) → Formed.LogStops log head a → Formed.LogStops log head b → a ≡ b
log_stop_once log head a b x y = ⊎_elim
    (λ (broken : IsBrokenAt log a). ⊎_elim
    (λ (other : IsBrokenAt log b). broken.place ∙ sym other.place)
    (λ (other : IsWhole log × (Formed.HasFewFrames log head b ⊎ Formed.HasAnotherPlace log head b)). absurd (not_broken log a broken other.0))
    y)
    (λ (later : IsWhole log × (Formed.HasFewFrames log head a ⊎ Formed.HasAnotherPlace log head a)). ⊎_elim
    (λ (other : IsBrokenAt log b). absurd (not_broken log b other later.0))
    (λ (other : IsWhole log × (Formed.HasFewFrames log head b ⊎ Formed.HasAnotherPlace log head b)). frames_once log head a b later.1 other.1)
    y)
    x

-- ---- the end or a stop

step_never : {X : Type 0} (Stops : Type 0) (Finds Behind : X → Type 0) (x : X) → ((y : X) → Finds y → y ≡ x) → (Stops → ⊥) → (Behind x → ⊥) → Formed.StopsOr Stops Finds Behind → ⊥
step_never {X} Stops Finds Behind x once no_stop no_behind fails =
    ⊎_elim no_stop (λ (later : (y : X) × Finds y × Behind y). no_behind (subst Behind (once later.0 later.1) later.2)) fails

module _ (files : Image) (formed : Formed.IsFormed files) (file at : ℕ) where
  abbrev head : Head
  head = formed.head

  abbrev pages : Section
  pages = first_pages files formed.head.count

  abbrev log : List ℕ
  log = files 2

  abbrev saved : State
  saved = formed.saved

  no_record : Formed.FailsInRecords log head saved file at → ⊥
  no_record fails = bodies_or_stop (Formed.later_bodies log head) saved formed.now fails.behind formed.later fails.stops

  no_log : Formed.FailsInLog log head saved file at → ⊥
  no_log fails = ⊎_elim
      (λ (stops : (file ≡ 2) × Formed.LogStops log head at). log_or_stop log head at formed.log stops.1)
      (λ (later : Formed.HasLog log head × Formed.FailsInRecords log head saved file at). no_record later.1)
      fails

  no_undoing : Formed.FailsInUndoing log head saved file at → ⊥
  no_undoing fails = ⊎_elim
      (λ (stops : Formed.IsAtPage file at (λ page. (page ≡ head.rollback) × (Formed.CanUndo saved → ⊥))). stops.stops.1 formed.stands.undoes)
      (λ (later : Formed.CanUndo saved × Formed.FailsInLog log head saved file at). no_log later.1)
      fails

  no_row : Formed.FailsInRows pages log head formed.stands.chains formed.stands.schema saved.lists file at → ⊥
  no_row fails =
      let others = other_pages head.count (listed formed.stands.chains) in
      step_never (Formed.IsAtPage file at (RowsStop pages others (emptied formed.stands.schema))) (Formed.HoldsRows pages head formed.stands.chains formed.stands.schema)
      (λ t. Formed.FailsInUndoing log head (Formed.state_of t saved.lists) file at) saved.tables
      (λ t rows. rows_once pages others (emptied formed.stands.schema) t saved.tables rows formed.stands.rows)
      (λ stops. rows_or_stop pages others (emptied formed.stands.schema) saved.tables stops.page formed.stands.rows stops.stops) no_undoing fails

  no_rule : Formed.FailsInSchema pages log head formed.stands.chains formed.stands.schema saved.lists file at → ⊥
  no_rule fails = ⊎_elim
      (λ (stops : Formed.IsAtPage file at (λ page. (page ≡ head.catalog) × (IsCatalog formed.stands.schema → ⊥))). stops.stops.1 formed.stands.catalog)
      (λ (later : IsCatalog formed.stands.schema × Formed.FailsInRows pages log head formed.stands.chains formed.stands.schema saved.lists file at). no_row later.1)
      fails

  no_list : Formed.FailsInChanges pages log head formed.stands.chains formed.stands.schema file at → ⊥
  no_list fails =
      let tells = TellsLists head.rollback formed.stands.chains.changes in
      step_never (Formed.IsAtPage file at (λ page. (page ≡ head.rollback) × ((lists : Lists) → tells lists → ⊥))) tells
      (λ lists. Formed.FailsInSchema pages log head formed.stands.chains formed.stands.schema lists file at) saved.lists
      (λ lists told. told_once head.rollback formed.stands.chains.changes lists saved.lists told formed.stands.lists)
      (λ stops. stops.stops.1 saved.lists formed.stands.lists) no_rule fails

  no_schema : Formed.FailsInCatalog pages log head formed.stands.chains file at → ⊥
  no_schema fails =
      let holds = Formed.HoldsSchema head formed.stands.chains.schema in
      step_never (Formed.IsAtPage file at (λ page. (page ≡ head.catalog) × ((schema : Catalog) → holds schema → ⊥))) holds
      (λ schema. Formed.FailsInChanges pages log head formed.stands.chains schema file at) formed.stands.schema
      (λ schema has. holds_once head formed.stands.chains.schema schema formed.stands.schema has formed.stands.holds)
      (λ stops. stops.stops.1 formed.stands.schema formed.stands.holds) no_list fails

  no_chain : Formed.FailsInChains pages log head file at → ⊥
  no_chain fails =
      step_never (Formed.IsAtPage file at (ChainsStop pages head)) (HasChains pages head) (λ chains. Formed.FailsInCatalog pages log head chains file at) formed.stands.chains
      (λ chains has. chains_once pages head chains formed.stands.chains has formed.stands.has)
      (λ stops. chains_or_stop pages head formed.stands.chains stops.page formed.stands.has stops.stops) no_schema fails

  -- formed files fail nowhere
  pub never_both : Formed.FailsAt files file at → ⊥
  never_both fails =
      step_never (opening.FailsAt files file at) (Formed.HasHeader files) (λ h. Formed.FailsInChains (first_pages files h.count) (files 2) h file at) head
      (λ h has. header_once files h head has formed.header) (header_or_stop files head file at formed.header) no_chain fails

-- ---- one state

-- What pages stand for is one state.
pub stands_once : (pages : Section) (head : Head) (s u : State) → Formed.Stands pages head s → Formed.Stands pages head u → s ≡ u
stands_once pages head s u a b =
    let chains = chains_once pages head b.chains a.chains b.has a.has in
    let lists = told_once head.rollback a.chains.changes s.lists u.lists a.lists (subst (λ (c : Chains). TellsLists head.rollback c.changes u.lists) chains b.lists) in
    let schema = holds_once head a.chains.schema b.schema a.schema (subst (λ (c : Chains). Formed.HoldsSchema head c.schema b.schema) chains b.holds) a.holds in
    let rows = subst (λ (c : Catalog). Formed.HoldsRows pages head a.chains c u.tables) schema (subst (λ (c : Chains). Formed.HoldsRows pages head c b.schema u.tables) chains b.rows) in
    let tables = rows_once pages (other_pages head.count (listed a.chains)) (emptied a.schema) s.tables u.tables a.rows rows in
    λ i. Formed.state_of (tables i) (lists i)

pub now_once : (files : Image) (a b : Formed.IsFormed files) → a.now ≡ b.now
now_once files a b =
    let head = header_once files b.head a.head b.header a.header in
    let stands = subst (λ (h : Head). Formed.Stands (first_pages files h.count) h b.saved) head b.stands in
    let saved = stands_once (first_pages files a.head.count) a.head b.saved a.saved stands a.stands in
    let later = subst (λ (h : Head). Formed.AppliesBodies (Formed.later_bodies (files 2) h) b.saved b.now) head b.later in
    bodies_once (Formed.later_bodies (files 2) a.head) a.saved a.now b.now a.later (subst (λ (s : State). Formed.AppliesBodies (Formed.later_bodies (files 2) a.head) s b.now) saved later)

some_tables : (t u : Tables) → Some t ≡ Some u → t ≡ u
some_tables t u e = cc

pub tables_once : (files : Image) (t u : Tables) → Formed.Opens files t → Formed.Opens files u → t ≡ u
tables_once files t u x y = some_tables t u (sym x.undone ∙ ap undone (now_once files x.formed y.formed) ∙ y.undone)

-- ---- one place

step_once : {X : Type 0} (S U P : Type 0) (Finds A B : X → Type 0) → ((x y : X) → Finds x → Finds y → x ≡ y) → (S → U → P) → ((x : X) → Finds x → S → ⊥) → ((x : X) → Finds x → U → ⊥)
    → ((x : X) → Finds x → A x → B x → P) → Formed.StopsOr S Finds A → Formed.StopsOr U Finds B → P
step_once {X} S U P Finds A B once both no_s no_u behind fails others = ⊎_elim
    (λ (s : S). ⊎_elim (both s) (λ (later : (x : X) × Finds x × B x). absurd (no_s later.0 later.1 s)) others)
    (λ (later : (x : X) × Finds x × A x). ⊎_elim
    (λ (u : U). absurd (no_u later.0 later.1 u))
    (λ (other : (x : X) × Finds x × B x). behind later.0 later.1 later.2 (subst B (once other.0 later.0 other.1 later.1) other.2))
    others)
    fails

-- the same, where the step has nothing to find
rule_once : (S U P Rule A B : Type 0) → (S → U → P) → (Rule → S → ⊥) → (Rule → U → ⊥) → (A → B → P) → S ⊎ (Rule × A) → U ⊎ (Rule × B) → P
rule_once S U P Rule A B both no_s no_u behind fails others = ⊎_elim
    (λ (s : S). ⊎_elim (both s) (λ (later : Rule × B). absurd (no_s later.0 s)) others)
    (λ (later : Rule × A). ⊎_elim (λ (u : U). absurd (no_u later.0 u)) (λ (other : Rule × B). behind later.1 other.1) others)
    fails

at_one_page : (f a g b : ℕ) (Stops : ℕ → Type 0) → ((m n : ℕ) → Stops m → Stops n → m ≡ n) → Formed.IsAtPage f a Stops → Formed.IsAtPage g b Stops → Same f a g b
at_one_page f a g b Stops once x y =
    (x.in_main ∙ sym y.in_main, x.place ∙ ap (λ (page : ℕ). 4096 * page) (once x.page y.page x.stops y.stops) ∙ sym y.place)

at_first : (first : ℕ) (P : Type 0) (m n : ℕ) → (m ≡ first) × P → (n ≡ first) × P → m ≡ n
at_first first P m n x y = x.0 ∙ sym y.0

module _ (f a g b : ℕ) where
  records_once : (log : List ℕ) (head : Head) (saved : State) → Formed.FailsInRecords log head saved f a → Formed.FailsInRecords log head saved g b → Same f a g b
  records_once log head saved x y =
      let behind = bodies_stop_once (Formed.later_bodies log head) saved x.behind y.behind x.stops y.stops in
      (x.in_log ∙ sym y.in_log, x.place ∙ ap (λ (n : ℕ). gate_place log (head.frames + n)) behind ∙ sym y.place)

  logs_once : (log : List ℕ) (head : Head) (saved : State) → Formed.FailsInLog log head saved f a → Formed.FailsInLog log head saved g b → Same f a g b
  logs_once log head saved x y =
      rule_once ((f ≡ 2) × Formed.LogStops log head a) ((g ≡ 2) × Formed.LogStops log head b) (Same f a g b) (Formed.HasLog log head) (Formed.FailsInRecords log head saved f a) (Formed.FailsInRecords log head saved g b)
      (λ s u. (s.0 ∙ sym u.0, log_stop_once log head a b s.1 u.1)) (λ has s. log_or_stop log head a has s.1) (λ has u. log_or_stop log head b has u.1) (records_once log head saved) x y

  undoing_once : (log : List ℕ) (head : Head) (saved : State) → Formed.FailsInUndoing log head saved f a → Formed.FailsInUndoing log head saved g b → Same f a g b
  undoing_once log head saved x y =
      let none = Formed.CanUndo saved → ⊥ in
      let stops = λ (page : ℕ). (page ≡ head.rollback) × none in
      rule_once (Formed.IsAtPage f a stops) (Formed.IsAtPage g b stops) (Same f a g b) (Formed.CanUndo saved) (Formed.FailsInLog log head saved f a) (Formed.FailsInLog log head saved g b)
      (at_one_page f a g b stops (at_first head.rollback none)) (λ can s. s.stops.1 can) (λ can u. u.stops.1 can) (logs_once log head saved) x y

  rows_fail_once : (pages : Section) (log : List ℕ) (head : Head) (chains : Chains) (schema : Catalog) (lists : Lists)
      → Formed.FailsInRows pages log head chains schema lists f a → Formed.FailsInRows pages log head chains schema lists g b → Same f a g b
  rows_fail_once pages log head chains schema lists x y =
      let others = other_pages head.count (listed chains) in
      let stops = RowsStop pages others (emptied schema) in
      step_once (Formed.IsAtPage f a stops) (Formed.IsAtPage g b stops) (Same f a g b) (Formed.HoldsRows pages head chains schema)
      (λ t. Formed.FailsInUndoing log head (Formed.state_of t lists) f a) (λ t. Formed.FailsInUndoing log head (Formed.state_of t lists) g b)
      (λ t u p q. rows_once pages others (emptied schema) t u p q) (at_one_page f a g b stops (λ m n p q. rows_stop_once pages others (emptied schema) m n p q))
      (λ t has s. rows_or_stop pages others (emptied schema) t s.page has s.stops) (λ t has u. rows_or_stop pages others (emptied schema) t u.page has u.stops)
      (λ t has p q. undoing_once log head (Formed.state_of t lists) p q) x y

  schema_fail_once : (pages : Section) (log : List ℕ) (head : Head) (chains : Chains) (schema : Catalog) (lists : Lists)
      → Formed.FailsInSchema pages log head chains schema lists f a → Formed.FailsInSchema pages log head chains schema lists g b → Same f a g b
  schema_fail_once pages log head chains schema lists x y =
      let none = IsCatalog schema → ⊥ in
      let stops = λ (page : ℕ). (page ≡ head.catalog) × none in
      rule_once (Formed.IsAtPage f a stops) (Formed.IsAtPage g b stops) (Same f a g b) (IsCatalog schema)
      (Formed.FailsInRows pages log head chains schema lists f a) (Formed.FailsInRows pages log head chains schema lists g b)
      (at_one_page f a g b stops (at_first head.catalog none)) (λ can s. s.stops.1 can) (λ can u. u.stops.1 can) (rows_fail_once pages log head chains schema lists) x y

  changes_fail_once : (pages : Section) (log : List ℕ) (head : Head) (chains : Chains) (schema : Catalog)
      → Formed.FailsInChanges pages log head chains schema f a → Formed.FailsInChanges pages log head chains schema g b → Same f a g b
  changes_fail_once pages log head chains schema x y =
      let tells = TellsLists head.rollback chains.changes in
      let none = (lists : Lists) → tells lists → ⊥ in
      let stops = λ (page : ℕ). (page ≡ head.rollback) × none in
      step_once (Formed.IsAtPage f a stops) (Formed.IsAtPage g b stops) (Same f a g b) tells
      (λ lists. Formed.FailsInSchema pages log head chains schema lists f a) (λ lists. Formed.FailsInSchema pages log head chains schema lists g b)
      (λ s u p q. told_once head.rollback chains.changes s u p q) (at_one_page f a g b stops (at_first head.rollback none))
      (λ lists has s. s.stops.1 lists has) (λ lists has u. u.stops.1 lists has) (λ lists has p q. schema_fail_once pages log head chains schema lists p q) x y

  catalog_fail_once : (pages : Section) (log : List ℕ) (head : Head) (chains : Chains)
      → Formed.FailsInCatalog pages log head chains f a → Formed.FailsInCatalog pages log head chains g b → Same f a g b
  catalog_fail_once pages log head chains x y =
      let holds = Formed.HoldsSchema head chains.schema in
      let none = (schema : Catalog) → holds schema → ⊥ in
      let stops = λ (page : ℕ). (page ≡ head.catalog) × none in
      step_once (Formed.IsAtPage f a stops) (Formed.IsAtPage g b stops) (Same f a g b) holds
      (λ schema. Formed.FailsInChanges pages log head chains schema f a) (λ schema. Formed.FailsInChanges pages log head chains schema g b)
      (λ s u p q. holds_once head chains.schema s u p q) (at_one_page f a g b stops (at_first head.catalog none))
      (λ schema has s. s.stops.1 schema has) (λ schema has u. u.stops.1 schema has) (λ schema has p q. changes_fail_once pages log head chains schema p q) x y

  chains_fail_once : (pages : Section) (log : List ℕ) (head : Head) → Formed.FailsInChains pages log head f a → Formed.FailsInChains pages log head g b → Same f a g b
  chains_fail_once pages log head x y =
      step_once (Formed.IsAtPage f a (ChainsStop pages head)) (Formed.IsAtPage g b (ChainsStop pages head)) (Same f a g b) (HasChains pages head)
      (λ chains. Formed.FailsInCatalog pages log head chains f a) (λ chains. Formed.FailsInCatalog pages log head chains g b)
      (λ s u p q. chains_once pages head s u p q) (at_one_page f a g b (ChainsStop pages head) (chains_stop_once pages head))
      (λ chains has s. chains_or_stop pages head chains s.page has s.stops) (λ chains has u. chains_or_stop pages head chains u.page has u.stops)
      (λ chains has p q. catalog_fail_once pages log head chains p q) x y

-- the walk fails at one place
pub fails_once : (files : Image) (f a g b : ℕ) → Formed.FailsAt files f a → Formed.FailsAt files g b → Same f a g b
fails_once files f a g b x y =
    step_once (opening.FailsAt files f a) (opening.FailsAt files g b) (Same f a g b) (Formed.HasHeader files)
    (λ head. Formed.FailsInChains (first_pages files head.count) (files 2) head f a) (λ head. Formed.FailsInChains (first_pages files head.count) (files 2) head g b)
    (λ s u p q. header_once files s u p q) (head_stop_once files f a g b) (λ head has s. header_or_stop files head f a has s) (λ head has u. header_or_stop files head g b has u)
    (λ head has p q. chains_fail_once f a g b (first_pages files head.count) (files 2) head p q) x y
