-- Each step of the walk finds one thing, or stops at one place.
use Rattle.std.proofs.Common.{◌≡◌, ◌≢◌, ◌⊎◌, ⊎_elim, inl, inr, ℕ, suc, ◌+◌, ◌<◌, ◌≤◌, List, [], ◌∷◌, ◌++◌, length, map, Option, Some, None, refl, sym, ◌∙◌, ap, ap₂, subst, arith}
use Rattle.std.specs.List.{AllByRecursion}
use Rattle.wat_disk.specs.Disk.{Image}
use Rattle.wat_gate.specs.Bodies.{bodies, gate_place, end_of, IsWhole, IsBrokenAt}
use Rattle.wat_restore.specs.Head.{Head, IsHead}
use Rattle.wat_restore.proofs.Heads.{one_head, one_page}
use Rattle.wat_book.specs.Book.{Section}
use Rattle.wat_book.specs.Chains.{IsReadChain, BreaksAt}
use Rattle.wat_slot.specs.Cells.{IsCellPage}
use Rattle.wat_slot.proofs.Reading.{one_list}
use Rattle.wat_schema.specs.Catalog.{Catalog}
use Rattle.wat_schema.specs.Tables.{Tables, apply_all}
use Rattle.wat_log_record.specs.declared.log_record.LogRecord.{LogRecord}
use Rattle.wat_log_record.specs.Encoding.{number_bytes}
use Rattle.wat_log_record.specs.Bodies.{SpellsRecords}
use Rattle.wat_log_record.proofs.Cancelling.{tables_and_rows, spelled_once}
use Rattle.wat_replay.specs.State.{State}
use Rattle.wat_replay.specs.Replay.{AppliesAll}
use Rattle.wat_replay.proofs.Replaying.{one_next}
use Rattle.wat_spelled.proofs.Spelling.{schema_once}
use Rattle.wat_files.specs.Chains.{Chains, in_chains, IsFreeList, FreeBreaksAt, HasChains, CatalogStops, RollbackStops, FreeStops, ChainsStop}
use Rattle.wat_files.specs.Rows.{Placed, cell_of, IsPlaced, IsRowPage, HasRows, inserts, AddsPage, AddsPages, RowsStop}
use Rattle.wat_files.specs.Formed
use Rattle.wat_files.proofs.Paths.{one_read, read_or_break, breaks_once, one_free, free_or_break, free_breaks_once}

-- ---- the header and the schema

pub header_once : (files : Image) (a b : Head) → Formed.HasHeader files a → Formed.HasHeader files b → a ≡ b
header_once files a b x y =
    one_head x.is.page a b x.is.is (subst (λ (page : List ℕ). IsHead page b) (one_page files 0 y.is.page x.is.page y.is.stands x.is.stands) y.is.is)

pub holds_once : (head : Head) (payload : List ℕ) (a b : Catalog) → Formed.HoldsSchema head payload a → Formed.HoldsSchema head payload b → a ≡ b
holds_once head payload a b x y = schema_once payload a b x.spells y.spells (x.next ∙ sym y.next)

-- ---- the chains

module _ (pages : Section) (head : Head) where
  abbrev Read : List ℕ → ℕ → List ℕ → List ℕ → Type 0
  Read met first list payload = IsReadChain pages met first list payload

  first_same : (a b x y : List ℕ) → Read [] head.catalog a x → Read [] head.catalog b y → (a ≡ b) × (x ≡ y)
  first_same a b x y p q = one_read pages [] head.catalog a b x y p q

  second_same : (met other a b x y : List ℕ) → met ≡ other → Read met head.rollback a x → Read other head.rollback b y → (a ≡ b) × (x ≡ y)
  second_same met other a b x y same p q = one_read pages met head.rollback a b x y p (subst (λ (m : List ℕ). Read m head.rollback b y) (sym same) q)

  pub chains_once : (a b : Chains) → HasChains pages head a → HasChains pages head b → a ≡ b
  chains_once a b x y =
      let first = first_same a.catalog b.catalog a.schema b.schema x.catalog y.catalog in
      let second = second_same a.catalog b.catalog a.rollback b.rollback a.changes b.changes first.0 x.rollback y.rollback in
      let met : a.catalog ++ a.rollback ≡ b.catalog ++ b.rollback = ap₂ (λ m n. m ++ n) first.0 second.0 in
      let free = one_free pages (a.catalog ++ a.rollback) head.free a.free b.free x.free (subst (λ (m : List ℕ). IsFreeList pages m head.free b.free) (sym met) y.free) in
      λ i. record { catalog = first.0 i; schema = first.1 i; rollback = second.0 i; changes = second.1 i; free = free i }

  catalog_or_stop : (page : ℕ) (list payload : List ℕ) → 0 < head.catalog → Read [] head.catalog list payload → CatalogStops pages head page → ⊥
  catalog_or_stop page list payload some whole stops = ⊎_elim
      (λ (none : (head.catalog ≡ 0) × (page ≡ 0)). omega (arith, none.0, some))
      (λ (breaks : (0 < head.catalog) × BreaksAt pages [] head.catalog page). read_or_break pages [] head.catalog page list payload whole breaks.1)
      stops

  rollback_or_stop : (page : ℕ) (list payload second changes : List ℕ) → Read [] head.catalog list payload → Read list head.rollback second changes → RollbackStops pages head page → ⊥
  rollback_or_stop page list payload second changes whole next stops =
      let same = first_same stops.list list stops.payload payload stops.catalog whole in
      read_or_break pages list head.rollback page second changes next (subst (λ (m : List ℕ). BreaksAt pages m head.rollback page) same.0 stops.stops)

  free_or_stop : (page : ℕ) (list payload second changes free : List ℕ) → Read [] head.catalog list payload → Read list head.rollback second changes → IsFreeList pages (list ++ second) head.free free
      → FreeStops pages head page → ⊥
  free_or_stop page list payload second changes free whole next last stops =
      let one = first_same stops.list list stops.payload payload stops.catalog whole in
      let two = second_same stops.list list stops.second second stops.changes changes one.0 stops.rollback next in
      let met : stops.list ++ stops.second ≡ list ++ second = ap₂ (λ m n. m ++ n) one.0 two.0 in
      free_or_break pages (list ++ second) head.free page free last (subst (λ (m : List ℕ). FreeBreaksAt pages m head.free page) met stops.stops)

  pub chains_or_stop : (chains : Chains) (page : ℕ) → HasChains pages head chains → ChainsStop pages head page → ⊥
  chains_or_stop chains page x stops = ⊎_elim
      (λ (one : CatalogStops pages head page). catalog_or_stop page chains.catalog chains.schema x.some x.catalog one)
      (λ (later : RollbackStops pages head page ⊎ FreeStops pages head page). ⊎_elim
      (λ (two : RollbackStops pages head page). rollback_or_stop page chains.catalog chains.schema chains.rollback chains.changes x.catalog x.rollback two)
      (λ (three : FreeStops pages head page). free_or_stop page chains.catalog chains.schema chains.rollback chains.changes chains.free x.catalog x.rollback x.free three)
      later)
      stops

  catalog_once : (m n : ℕ) → CatalogStops pages head m → CatalogStops pages head n → m ≡ n
  catalog_once m n a b = ⊎_elim
      (λ (none : (head.catalog ≡ 0) × (m ≡ 0)). ⊎_elim
      (λ (other : (head.catalog ≡ 0) × (n ≡ 0)). none.1 ∙ sym other.1)
      (λ (other : (0 < head.catalog) × BreaksAt pages [] head.catalog n). absurd (omega (arith, none.0, other.0)))
      b)
      (λ (breaks : (0 < head.catalog) × BreaksAt pages [] head.catalog m). ⊎_elim
      (λ (other : (head.catalog ≡ 0) × (n ≡ 0)). absurd (omega (arith, other.0, breaks.0)))
      (λ (other : (0 < head.catalog) × BreaksAt pages [] head.catalog n). breaks_once pages [] head.catalog m n breaks.1 other.1)
      b)
      a

  rollback_once : (m n : ℕ) → RollbackStops pages head m → RollbackStops pages head n → m ≡ n
  rollback_once m n a b =
      let same = first_same b.list a.list b.payload a.payload b.catalog a.catalog in
      breaks_once pages a.list head.rollback m n a.stops (subst (λ (met : List ℕ). BreaksAt pages met head.rollback n) same.0 b.stops)

  free_once : (m n : ℕ) → FreeStops pages head m → FreeStops pages head n → m ≡ n
  free_once m n a b =
      let one = first_same b.list a.list b.payload a.payload b.catalog a.catalog in
      let two = second_same b.list a.list b.second a.second b.changes a.changes one.0 b.rollback a.rollback in
      let met : b.list ++ b.second ≡ a.list ++ a.second = ap₂ (λ x y. x ++ y) one.0 two.0 in
      free_breaks_once pages (a.list ++ a.second) head.free m n a.stops (subst (λ (x : List ℕ). FreeBreaksAt pages x head.free n) met b.stops)

  later_once : (m n : ℕ) → RollbackStops pages head m ⊎ FreeStops pages head m → RollbackStops pages head n ⊎ FreeStops pages head n → m ≡ n
  later_once m n a b = ⊎_elim
      (λ (two : RollbackStops pages head m). ⊎_elim
      (λ (other : RollbackStops pages head n). rollback_once m n two other)
      (λ (other : FreeStops pages head n). absurd (rollback_or_stop m other.list other.payload other.second other.changes other.catalog other.rollback two))
      b)
      (λ (three : FreeStops pages head m). ⊎_elim
      (λ (other : RollbackStops pages head n). absurd (rollback_or_stop n three.list three.payload three.second three.changes three.catalog three.rollback other))
      (λ (other : FreeStops pages head n). free_once m n three other)
      b)
      a

  stops_behind : (m n : ℕ) → CatalogStops pages head m → RollbackStops pages head n ⊎ FreeStops pages head n → ⊥
  stops_behind m n stops later = ⊎_elim
      (λ (two : RollbackStops pages head n). catalog_or_stop m two.list two.payload two.some two.catalog stops)
      (λ (three : FreeStops pages head n). catalog_or_stop m three.list three.payload three.some three.catalog stops)
      later

  pub chains_stop_once : (m n : ℕ) → ChainsStop pages head m → ChainsStop pages head n → m ≡ n
  chains_stop_once m n a b = ⊎_elim
      (λ (one : CatalogStops pages head m). ⊎_elim
      (λ (other : CatalogStops pages head n). catalog_once m n one other)
      (λ (other : RollbackStops pages head n ⊎ FreeStops pages head n). absurd (stops_behind m n one other))
      b)
      (λ (later : RollbackStops pages head m ⊎ FreeStops pages head m). ⊎_elim
      (λ (other : CatalogStops pages head n). absurd (stops_behind n m other later))
      (λ (other : RollbackStops pages head n ⊎ FreeStops pages head n). later_once m n later other)
      b)
      a

-- ---- rows

cell_once : (a b : Placed) → IsPlaced a → IsPlaced b → cell_of a ≡ cell_of b → a ≡ b
unfolding number_bytes
cell_once a b pa pb e = (tables_and_rows a b [] [] (pa.table, pa.row) (pb.table, pb.row) (ap (λ z. z ++ []) e)).0

first_cell : (x y : List ℕ) (xs ys : List (List ℕ)) → x ∷ xs ≡ y ∷ ys → x ≡ y
first_cell x y xs ys e = cc

other_cells : (x y : List ℕ) (xs ys : List (List ℕ)) → x ∷ xs ≡ y ∷ ys → xs ≡ ys
other_cells x y xs ys e = cc

cells_once : (xs ys : List Placed) → AllByRecursion IsPlaced xs → AllByRecursion IsPlaced ys → map cell_of xs ≡ map cell_of ys → xs ≡ ys
cells_once [] [] px py e = refl
cells_once [] (y ∷ ys) px py e = cc
cells_once (x ∷ xs) [] px py e = cc
cells_once (x ∷ xs) (y ∷ ys) px py e =
    ap₂ (λ z zs. z ∷ zs) (cell_once x y px.0 py.0 (first_cell (cell_of x) (cell_of y) (map cell_of xs) (map cell_of ys) e))
    (cells_once xs ys px.1 py.1 (other_cells (cell_of x) (cell_of y) (map cell_of xs) (map cell_of ys) e))

has_once : (o : Option (List ℕ)) (xs ys : List Placed) → HasRows o xs → HasRows o ys → xs ≡ ys
has_once None xs ys a b = absurd a
has_once (Some bytes) xs ys a b = cells_once xs ys a.encodable b.encodable (one_list bytes (map cell_of xs) (map cell_of ys) a.cells b.cells)

some_same : (a b : Tables) → Some a ≡ Some b → a ≡ b
some_same a b e = cc

-- a page adds its rows in one way
pub adds_once : (pages : Section) (page : ℕ) (t a b : Tables) → AddsPage pages page t a → AddsPage pages page t b → a ≡ b
adds_once pages page t a b x y = some_same a b (sym x.added ∙ ap (λ rows. apply_all (inserts rows) t) (has_once (pages page) x.rows y.rows x.has y.has) ∙ y.added)

pub rows_once : (pages : Section) (list : List ℕ) (t a b : Tables) → AddsPages pages list t a → AddsPages pages list t b → a ≡ b
rows_once pages [] t a b x y = sym x ∙ y
rows_once pages (page ∷ list) t a b x y =
    rows_once pages list x.0 a b x.2 (subst (λ (u : Tables). AddsPages pages list u b) (adds_once pages page t y.0 x.0 y.1 x.1) y.2)

abbrev StopsHere : Section → ℕ → Tables → ℕ → Type 0
StopsHere pages page t stop = (stop ≡ page) × ((next : Tables) → AddsPage pages page t next → ⊥)

abbrev StopsLater : Section → ℕ → List ℕ → Tables → ℕ → Type 0
StopsLater pages page list t stop = (next : Tables) × AddsPage pages page t next × RowsStop pages list next stop

pub rows_or_stop : (pages : Section) (list : List ℕ) (t a : Tables) (stop : ℕ) → AddsPages pages list t a → RowsStop pages list t stop → ⊥
rows_or_stop pages [] t a stop x y = y
rows_or_stop pages (page ∷ list) t a stop x y = ⊎_elim
    (λ (here : StopsHere pages page t stop). here.1 x.0 x.1)
    (λ (later : StopsLater pages page list t stop).
    rows_or_stop pages list x.0 a stop x.2 (subst (λ (u : Tables). RowsStop pages list u stop) (adds_once pages page t later.0 x.0 later.1 x.1) later.2))
    y

pub rows_stop_once : (pages : Section) (list : List ℕ) (t : Tables) (m n : ℕ) → RowsStop pages list t m → RowsStop pages list t n → m ≡ n
rows_stop_once pages [] t m n x y = absurd x
rows_stop_once pages (page ∷ list) t m n x y = ⊎_elim
    (λ (here : StopsHere pages page t m). ⊎_elim
    (λ (other : StopsHere pages page t n). here.0 ∙ sym other.0)
    (λ (later : StopsLater pages page list t n). absurd (here.1 later.0 later.1))
    y)
    (λ (later : StopsLater pages page list t m). ⊎_elim
    (λ (here : StopsHere pages page t n). absurd (here.1 later.0 later.1))
    (λ (other : StopsLater pages page list t n).
    rows_stop_once pages list later.0 m n later.2 (subst (λ (u : Tables). RowsStop pages list u n) (adds_once pages page t other.0 later.0 other.1 later.1) other.2))
    y)
    x

-- ---- records

applies_once : (entries : List LogRecord) (s a b : State) → AppliesAll entries s a → AppliesAll entries s b → a ≡ b
applies_once [] s a b x y = sym x ∙ y
applies_once (entry ∷ entries) s a b x y =
    applies_once entries x.0 a b x.2 (subst (λ (u : State). AppliesAll entries u b) (one_next entry s y.0 x.0 y.1 x.1) y.2)

body_once : (body : List ℕ) (s a b : State) → Formed.AppliesBody body s a → Formed.AppliesBody body s b → a ≡ b
body_once body s a b x y =
    applies_once x.entries s a b x.applied (subst (λ (entries : List LogRecord). AppliesAll entries s b) (spelled_once body y.entries x.entries y.spells x.spells) y.applied)

pub bodies_once : (all : List (List ℕ)) (s a b : State) → Formed.AppliesBodies all s a → Formed.AppliesBodies all s b → a ≡ b
bodies_once [] s a b x y = sym x ∙ y
bodies_once (body ∷ rest) s a b x y =
    bodies_once rest x.0 a b x.2 (subst (λ (u : State). Formed.AppliesBodies rest u b) (body_once body s y.0 x.0 y.1 x.1) y.2)

abbrev EndsHere : List ℕ → State → ℕ → Type 0
EndsHere body s stop = (stop ≡ 0) × ((next : State) → Formed.AppliesBody body s next → ⊥)

abbrev EndsLater : List ℕ → List (List ℕ) → State → ℕ → Type 0
EndsLater body rest s stop = (next : State) × (behind : ℕ) × Formed.AppliesBody body s next × (stop ≡ suc behind) × Formed.BodiesStop rest next behind

pub bodies_or_stop : (all : List (List ℕ)) (s last : State) (stop : ℕ) → Formed.AppliesBodies all s last → Formed.BodiesStop all s stop → ⊥
bodies_or_stop [] s last stop x y = y
bodies_or_stop (body ∷ rest) s last stop x y = ⊎_elim
    (λ (here : EndsHere body s stop). here.1 x.0 x.1)
    (λ (later : EndsLater body rest s stop).
    bodies_or_stop rest x.0 last later.1 x.2 (subst (λ (u : State). Formed.BodiesStop rest u later.1) (body_once body s later.0 x.0 later.2 x.1) later.4))
    y

pub bodies_stop_once : (all : List (List ℕ)) (s : State) (m n : ℕ) → Formed.BodiesStop all s m → Formed.BodiesStop all s n → m ≡ n
bodies_stop_once [] s m n x y = absurd x
bodies_stop_once (body ∷ rest) s m n x y = ⊎_elim
    (λ (here : EndsHere body s m). ⊎_elim
    (λ (other : EndsHere body s n). here.0 ∙ sym other.0)
    (λ (later : EndsLater body rest s n). absurd (here.1 later.0 later.2))
    y)
    (λ (later : EndsLater body rest s m). ⊎_elim
    (λ (here : EndsHere body s n). absurd (here.1 later.0 later.2))
    (λ (other : EndsLater body rest s n).
    later.3 ∙ ap suc (bodies_stop_once rest later.0 later.1 other.1 later.4
    (subst (λ (u : State). Formed.BodiesStop rest u other.1) (body_once body s other.0 later.0 other.2 later.2) other.4)) ∙ sym other.3)
    y)
    x
