-- What the work of the rows' heap leaves of what the objects hold.
use Rattle.std.proofs.Common.{◌≡◌, ◌≢◌, ℕ, ◌^◌, ◌<◌, ◌≤◌, ◌==◌, ◌&&◌, Bool, true, false, if◌then◌else◌, not, map, List, [], ◌∷◌, ◌++◌, length, Option, Some, None, refl, sym, ◌∙◌, ap, subst, arith, inl, inr, ◌⊎◌}
use Rattle.std.proofs.lemmas.Bool.{cases_lt, cases_Bool, and_parts, eqb-true, eqb-false}
use Rattle.std.specs.Option.{option_map, option_and_then}
use Rattle.wat_value.specs.declared.definition.TableDef.{TableDef}
use Rattle.wat_value.specs.declared.change.Change.{Change}
use Rattle.wat_value.specs.declared.change.Change.TheVariants.{Insert, Update, Delete}
use Rattle.wat_value.specs.declared.change.Act.TheVariants.{OnRow}
use Rattle.wat_value.specs.Encoding.{row_bytes, IsEncodable}
use Rattle.wat_value.specs.Fits.{fits, key_of}
use Rattle.wat_value.specs.Order.{key_eq}
use Rattle.wat_book.specs.Book.{Book, Owners, Section, section, nobody, header, IsOwned, Works, Worked, SameBook}
use Rattle.wat_book.proofs.Working.{same_section, same_works, same_owned}
use Rattle.wat_rows.specs.Pages.{of_rows}
use Rattle.wat_rows.specs.Rows.{Row, RowMap, IsRowOf, Sets}
use Rattle.wat_directory.specs.Known as directory
use Rattle.wat_directory.specs.declared.directory.Directory.{Directory}
use Rattle.wat_heap.specs.Heaps.{directory_of, IsHeld}
use Rattle.wat_schema.specs.Catalog.{Catalog, Listing, def_at, listing_at}
use Rattle.wat_schema.specs.Tables.{IsTables, Table, Tables, apply_change, after_insert, after_update, after_delete, catalog_of, listing_of, row_at, row_eq, table_at, has_row, has_key, with_row}
use Rattle.wat_schema.proofs.Changing.{schema_stays, changes_one_row}
use Rattle.wat_schema.proofs.Database.{acts_hold, in_their_order}
use Rattle.wat_schema.proofs.Placed.{changed, listed}
use Rattle.wat_schema.proofs.Found.{whole_at}
use Rattle.wat_schema.proofs.Wide.{wide_row}
use Rattle.wat_schema.proofs.TableLaws.{equal, taken}
use Rattle.wat_pages.specs.Pages.{header_of}
use Rattle.wat_pages.specs.declared.pages.Pages.{Pages}
use Rattle.wat_pages.specs.declared.header.Header.{Header}
use Rattle.wat_book.specs.Chains.{HoldsPayload}
use Rattle.wat_spelled.specs.Schema.{SpellsSchema}
use Rattle.wat_undo.specs.Kept as kept
use Rattle.wat_heap.specs.declared.heap.Heap.{Heap}
use Rattle.wat_replay.specs.State.{State, Lists, with_list}
use Rattle.wat_held.specs.Held.{in_catalog, in_rollback, AreKnown}
use Rattle.wat_objects.specs.declared.objects.Objects.{Objects}
use Rattle.wat_objects.specs.Objects.{pages_of, heap_of, schema_of, catalog_page_of, lists_of, undo_of, HoldsSchemaChain, HoldsChain, HoldsOn}

-- ---- whose the pages are

known_one : (me n : ℕ) → me < 5 → me ≢ header → (n ≡ me) ⊎ (n ≡ nobody) → (page : ℕ) → (n < 5) × (n ≡ header → page ≡ 0)
known_one me n small other (inl is) page = (omega (arith, small, is), λ at. absurd (other (sym is ∙ at)))
known_one me n small other (inr is) page = (omega (arith, is), λ at. absurd (omega (arith, sym is ∙ at)))

pub known_after : (me : ℕ) (old new : Book) (owners next : Owners) → me < 5 → me ≢ header → AreKnown old.count owners → Works me old owners new next → AreKnown new.count next
known_after me old new owners next small other k w page below = elim (cases_lt page old.count) [
  | inl there ↦ elim (cases_Bool (owners page == me)) [
    | inl mine ↦ known_one me (next page) small other (w.mine page there (inl (eqb-true (owners page) me mine))) page
    | inr not_me ↦ elim (cases_Bool (owners page == nobody)) [
      | inl free ↦ known_one me (next page) small other (w.mine page there (inr (eqb-true (owners page) nobody free))) page
      | inr not_free ↦
          let same = (w.others page there (eqb-false (owners page) me not_me) (eqb-false (owners page) nobody not_free)).1 in
          let was = k page there in
          (subst (λ n. n < 5) (sym same) was.0, λ at. was.1 (sym same ∙ at))
    ]
  ]
  | inr behind ↦ known_one me (next page) small other (w.added page behind below) page
]

-- What beside the rows and the pages the objects have is as before.
pub record SameRest (x y : Objects) : Type 0 where
  pub schema : schema_of y ≡ schema_of x
  pub catalog : catalog_page_of y ≡ catalog_page_of x
  pub undo : undo_of y ≡ undo_of x
  pub header : header_of (pages_of y) ≡ header_of (pages_of x)

-- The heap has worked: its rows are those of the next tables.
pub rows_worked : (old new : Book) (x y : Objects) (s : State) (t : Tables) → (h : HoldsOn old x s) → Worked of_rows old h.owners new (λ mine. directory.Holds (directory_of (heap_of y)) mine (def_at (catalog_of s.tables)) (row_at t)) → SameRest x y → IsTables t
    → catalog_of t ≡ catalog_of s.tables → HoldsOn new y (record { tables = t; lists = s.lists })
rows_worked old new x y s t h w r is same =
    let catalogs = same_section of_rows in_catalog old new h.owners w.next (omega arith) (omega arith) w.works in
    let rollbacks = same_section of_rows in_rollback old new h.owners w.next (omega arith) (omega arith) w.works in
    record {
      owners = w.next;
      free = w.free;
      owned = w.owned;
      are_known = known_after of_rows old new h.owners w.next (omega arith) (omega arith) h.are_known w.works;
      schema = r.schema ∙ h.schema ∙ sym same;
      catalog = record {
        payload = h.catalog.payload;
        chain = subst (λ (p : Section). HoldsPayload p (catalog_page_of y) h.catalog.payload) (sym catalogs) (subst (λ n. HoldsPayload (section old h.owners in_catalog) n h.catalog.payload) (sym r.catalog) h.catalog.chain);
        spells = subst (SpellsSchema h.catalog.payload) (sym same) h.catalog.spells;
      };
      rollback = record {
        payload = h.rollback.payload;
        chain = subst (λ (p : Section). HoldsPayload p (header_of (pages_of y)).rollback h.rollback.payload) (sym rollbacks) (subst (λ (head : Header). HoldsPayload (section old h.owners in_rollback) head.rollback h.rollback.payload) (sym r.header) h.rollback.chain);
      };
      rows = subst (λ (c : Catalog). directory.Holds (directory_of (heap_of y)) (section new w.next of_rows) (def_at c) (row_at t)) (sym same) w.holds;
      lists = ap kept.lists_of r.undo ∙ h.lists;
      tables = is;
    }

-- the rows that the heap holds
pub held : (book : Book) (x : Objects) (s : State) → (h : HoldsOn book x s) → IsHeld (directory_of (heap_of x)) book h.owners h.free (def_at (catalog_of s.tables)) (row_at s.tables)
held book x s h = record { owned = h.owned; holds = h.rows }

-- where all pages are as before
pub holds_same : (old new : Book) (x y : Objects) (s : State) → HoldsOn old x s → SameBook old new → SameRest x y → heap_of y ≡ heap_of x → HoldsOn new y s
holds_same old new x y s h same r heap = rows_worked old new x y s s.tables h (record {
  next = h.owners;
  free = h.free;
  owned = same_owned old new h.owners h.free same h.owned;
  works = same_works of_rows old new h.owners same;
  holds = subst (λ (p : Section). directory.Holds (directory_of (heap_of y)) p (def_at (catalog_of s.tables)) (row_at s.tables)) (sym (same_section nobody_else of_rows old new h.owners h.owners (omega arith) (omega arith) (same_works nobody_else old new h.owners same)))
      (subst (λ (z : Heap). directory.Holds (directory_of z) (section old h.owners of_rows) (def_at (catalog_of s.tables)) (row_at s.tables)) (sym heap) h.rows);
}) r h.tables refl
  where
    nobody_else : ℕ
    nobody_else = 5

-- ---- the lists

pub with_lists : (book : Book) (x y : Objects) (s : State) (lists : Lists) → HoldsOn book x s → pages_of y ≡ pages_of x → heap_of y ≡ heap_of x → schema_of y ≡ schema_of x → catalog_page_of y ≡ catalog_page_of x → lists_of y ≡ lists → HoldsOn book y (record { tables = s.tables; lists = lists })
with_lists book x y s lists h pages heap schema catalog is = record {
  owners = h.owners;
  free = h.free;
  owned = h.owned;
  are_known = h.are_known;
  schema = schema ∙ h.schema;
  catalog = subst (λ n. HoldsSchemaChain (section book h.owners in_catalog) n (catalog_of s.tables)) (sym catalog) h.catalog;
  rollback = subst (λ (p : Pages). HoldsChain (section book h.owners in_rollback) (header_of p).rollback) (sym pages) h.rollback;
  rows = subst (λ (z : Heap). directory.Holds (directory_of z) (section book h.owners of_rows) (def_at (catalog_of s.tables)) (row_at s.tables)) (sym heap) h.rows;
  lists = is;
  tables = h.tables;
}

-- ---- what a change makes

-- What a change that applies says: the table's definition, and what becomes of the rows.
pub record Makes (change : Change) (s t : Tables) (table : ℕ) (row : Row) (after : Option Row) : Type 0 where
  pub def : TableDef
  pub stands : def_at (catalog_of s) table ≡ Some def
  pub tables : IsTables t
  pub schema : catalog_of t ≡ catalog_of s
  pub sets : Sets (row_at s) table (key_of def row) after (row_at t)

def_found : (n : ℕ) (x : Table) (t : Tables) → table_at t n ≡ Some x → def_at (catalog_of t) n ≡ Some x.def
def_found n x t found = ap (option_map (λ l. l.def)) (listed n x t.tables found)

pub record Puts (change : Change) (s t : Tables) (table : ℕ) (row : Row) : Type 0 where
  pub makes : Makes change s t table row (Some row)
  pub fit : fits makes.def row ≡ true

pub inserts : (table : ℕ) (row : Row) (s t : Tables) → IsTables s → apply_change (Insert table row) s ≡ Some t → Puts (Insert table row) s t table row
inserts table row s t is h =
    let ok = in_their_order s is in
    let p = changed table (after_insert row) s t h in
    let at = def_found table p.from s p.found in
    let may = (taken (fits p.from.def row && not (has_key p.from (key_of p.from.def row))) (record p.from { rows = with_row p.from.def row p.from.rows }) p.to p.made).0 in
    record {
      makes = record {
        def = p.from.def;
        stands = at;
        tables = acts_hold (OnRow (Insert table row)) s t is h;
        schema = schema_stays (Insert table row) s t ok h;
        sets = changes_one_row (Insert table row) s t p.from.def ok h at;
      };
      fit = (and_parts (fits p.from.def row) (not (has_key p.from (key_of p.from.def row))) may).0;
    }

pub updates : (table : ℕ) (before after : Row) (s t : Tables) → IsTables s → apply_change (Update table before after) s ≡ Some t → Puts (Update table before after) s t table after
updates table before after s t is h =
    let ok = in_their_order s is in
    let p = changed table (after_update before after) s t h in
    let at = def_found table p.from s p.found in
    let both = has_row p.from before && key_eq (key_of p.from.def before) (key_of p.from.def after) in
    let may = (taken (both && fits p.from.def after) (record p.from { rows = map (λ row. if row_eq row before then after else row) p.from.rows }) p.to p.made).0 in
    let parts = and_parts both (fits p.from.def after) may in
    let same : key_of p.from.def before ≡ key_of p.from.def after = equal (key_of p.from.def before) (key_of p.from.def after) (and_parts (has_row p.from before) (key_eq (key_of p.from.def before) (key_of p.from.def after)) parts.0).1 in
    record {
      makes = record {
        def = p.from.def;
        stands = at;
        tables = acts_hold (OnRow (Update table before after)) s t is h;
        schema = schema_stays (Update table before after) s t ok h;
        sets = subst (λ (key : Row). Sets (row_at s) table key (Some after) (row_at t)) same (changes_one_row (Update table before after) s t p.from.def ok h at);
      };
      fit = parts.1;
    }

pub deletes : (table : ℕ) (row : Row) (s t : Tables) → IsTables s → apply_change (Delete table row) s ≡ Some t → Makes (Delete table row) s t table row None
deletes table row s t is h =
    let ok = in_their_order s is in
    let p = changed table (after_delete row) s t h in
    let at = def_found table p.from s p.found in
    record {
      def = p.from.def;
      stands = at;
      tables = acts_hold (OnRow (Delete table row)) s t is h;
      schema = schema_stays (Delete table row) s t ok h;
      sets = changes_one_row (Delete table row) s t p.from.def ok h at;
    }

-- a row of a table that stands is narrow
pub narrow : (t : Tables) (table : ℕ) (def : TableDef) (row : Row) → IsTables t → def_at (catalog_of t) table ≡ Some def → fits def row ≡ true → length (row_bytes row) ≤ 3500
narrow t table def row is at fit = from (listing_at (catalog_of t) table) refl at
  where
    from : (o : Option Listing) → listing_at (catalog_of t) table ≡ o → option_map (λ l. l.def) o ≡ Some def → length (row_bytes row) ≤ 3500
    from None found e = let no : None ≡ Some def = e in cc
    from (Some l) found e =
        let same : l.def ≡ def = cc in
        wide_row l row (whole_at (catalog_of t) table l is.catalog found) (subst (λ (d : TableDef). fits d row ≡ true) (sym same) fit)

-- ---- the row's table, and its key

-- the key of the row in its table
pub keyed : (schema c : Catalog) (table : ℕ) (d def : TableDef) (key row : Row) → Some d ≡ def_at schema table → schema ≡ c → def_at c table ≡ Some def → key ≡ key_of d row → key ≡ key_of def row
keyed schema c table d def key row found is stands k =
    let same : d ≡ def = let both : Some d ≡ Some def = found ∙ ap (λ (z : Catalog). def_at z table) is ∙ stands in cc in
    k ∙ ap (λ (z : TableDef). key_of z row) same

-- a row of a table that stands may stand
pub row_stands : (c : Catalog) (table : ℕ) (key row : Row) (def : TableDef) → table < 2 ^ 32 → IsEncodable row → def_at c table ≡ Some def → fits def row ≡ true → key ≡ key_of def row → IsRowOf (def_at c) (record { name = record { table = table; key = key }; row = row })
row_stands c table key row def number encodable stands fit is = record { number = number; encodable = encodable; def = def; stands = stands; fits = fit; key = is }
