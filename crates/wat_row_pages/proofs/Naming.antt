-- A row page by its cells, and as rows that are put into tables.
use Rattle.std.proofs.Common.{◌≡◌, ℕ, ◌<◌, ◌==◌, ◌&&◌, ◌^◌, Bool, true, false, List, [], ◌∷◌, map, Option, Some, None, refl, sym, ◌∙◌, ap, subst, if◌then◌else◌}
use Rattle.std.specs.Prelude.{is_some}
use Rattle.std.specs.List.{find, AllByRecursion}
use Rattle.std.specs.Option.{option_map, option_and_then}
use Rattle.wat_value.specs.declared.definition.TableDef.{TableDef}
use Rattle.wat_value.specs.declared.change.Change.TheVariants.{Insert}
use Rattle.wat_value.specs.declared.change.Act.TheVariants.{OnRow}
use Rattle.wat_value.specs.Fits.{key_of}
use Rattle.wat_schema.specs.Catalog.{Catalog, Listing, has_number, def_at}
use Rattle.wat_schema.specs.Stored.{defs_of}
use Rattle.wat_schema.specs.Tables.{Tables, IsTables, catalog_of, row_at, apply_change, apply_all}
use Rattle.wat_schema.proofs.Database.{in_their_order, acts_hold}
use Rattle.wat_slot.specs.Cells.{IsCellPage}
use Rattle.wat_rows.specs.Rows.{Row, NamedRow, RowMap, name_is, cells_of, IsRowOf}
use Rattle.wat_recover.proofs.Asking.{asked, not_there}
use Rattle.wat_files.specs.Rows.{Placed, cell_of, IsPlaced, inserts, IsRowPage}
use Rattle.wat_held.proofs.Inserting.{Good, placed_of, PutOne, put_one}
use Rattle.wat_heap.specs.Taking.{def_in, with_row, AddsAll, IsRowList}
use Rattle.wat_heap.specs.Taking as heap

-- ---- definitions

found_def : (xs : List Listing) (table : ℕ) → find (λ (def : TableDef). table == def.number) (map (λ (x : Listing). x.def) xs) ≡ option_map (λ (x : Listing). x.def) (find (has_number table) xs)
found_def [] table = refl
found_def (x ∷ xs) table = by (table == x.def.number) (found_def xs table)
  where
    by : (b : Bool) → find (λ (def : TableDef). table == def.number) (map (λ (x : Listing). x.def) xs) ≡ option_map (λ (x : Listing). x.def) (find (has_number table) xs)
        → (if b then Some x.def else find (λ (def : TableDef). table == def.number) (map (λ (x : Listing). x.def) xs)) ≡ option_map (λ (x : Listing). x.def) (if b then Some x else find (has_number table) xs)
    by true later = refl
    by false later = later

pub same_defs : (schema : Catalog) (defs : List TableDef) → defs_of schema ≡ defs → def_in defs ≡ def_at schema
same_defs schema defs is = λ i table. ((ap (λ (l : List TableDef). def_in l table) (sym is)) ∙ found_def schema.tables table) i

-- ---- cells

pub cells_same : (rows : List NamedRow) → map cell_of (map placed_of rows) ≡ cells_of rows
cells_same [] = refl
cells_same (it ∷ rows) = ap (λ (rest : List (List ℕ)). cell_of (placed_of it) ∷ rest) (cells_same rows)

are_placed : (schema : Catalog) (rows : List NamedRow) → AllByRecursion (IsRowOf (def_at schema)) rows → AllByRecursion IsPlaced (map placed_of rows)
are_placed schema [] are = tt
are_placed schema (it ∷ rows) are = (record { table = are.0.number; row = are.0.encodable }, are_placed schema rows are.1)

-- ---- rows that the heap takes can be put into the tables

pub record Added (t : Tables) (schema : Catalog) (list : List NamedRow) (after : RowMap) : Type 0 where
  pub to : Tables
  pub made : apply_all (inserts (map placed_of list)) t ≡ Some to
  pub tables : IsTables to
  pub is : catalog_of to ≡ schema
  pub at : (table : ℕ) (key : Row) → after table key ≡ row_at to table key

good_of : (schema : Catalog) (t : Tables) → IsTables t → catalog_of t ≡ schema → Good schema t
good_of schema t ok is = record { tables = in_their_order t ok; is = is }

next_at : (schema : Catalog) (t : Tables) (it : NamedRow) (one : PutOne schema t it) (rows : RowMap) → ((table : ℕ) (key : Row) → rows table key ≡ row_at t table key) → (table : ℕ) (key : Row) → with_row it rows table key ≡ row_at one.to table key
next_at schema t it one rows same table key = ap (λ (o : Option Row). if name_is table key it.name then Some it.row else o) (same table key) ∙ sym (one.at table key)

pub added : (schema : Catalog) (list : List NamedRow) (t : Tables) (rows after : RowMap) → IsTables t → catalog_of t ≡ schema → ((table : ℕ) (key : Row) → rows table key ≡ row_at t table key)
    → AllByRecursion (IsRowOf (def_at schema)) list → AddsAll list rows after → Added t schema list after
added schema [] t rows after ok is same are adds = record { to = t; made = refl; tables = ok; is = is; at = λ table key. adds table key ∙ same table key }
added schema (it ∷ list) t rows after ok is same are adds =
    let one : PutOne schema t it = put_one schema t it (good_of schema t ok is) are.0 (sym (same it.name.table it.name.key) ∙ adds.0) in
    let more : Added one.to schema list after = added schema list one.to (with_row it rows) after (acts_hold (OnRow (Insert it.name.table it.row)) t one.to ok one.made) one.good.is
    (next_at schema t it one rows same) are.1 adds.1 in
    record {
      to = more.to;
      made = ap (option_and_then (apply_all (inserts (map placed_of list)))) one.made ∙ more.made;
      tables = more.tables;
      is = more.is;
      at = more.at;
    }

-- ---- rows that can be put into the tables are those that the heap takes

pub record Named (schema : Catalog) (rows : List Placed) (before : RowMap) : Type 0 where
  pub list : List NamedRow
  pub placed : map placed_of list ≡ rows
  pub allowed : AllByRecursion (IsRowOf (def_at schema)) list
  pub after : RowMap
  pub adds : AddsAll list before after

-- the first of some acts that apply
record First (row : Placed) (rest : List Placed) (t next : Tables) : Type 0 where
  mid : Tables
  made : apply_change (Insert row.0 row.1) t ≡ Some mid
  more : apply_all (inserts rest) mid ≡ Some next

first_of : (row : Placed) (rest : List Placed) (t next : Tables) → apply_all (inserts (row ∷ rest)) t ≡ Some next → First row rest t next
first_of row rest t next is = by (apply_change (Insert row.0 row.1) t) refl is
  where
    by : (o : Option Tables) → apply_change (Insert row.0 row.1) t ≡ o → option_and_then (apply_all (inserts rest)) o ≡ Some next → First row rest t next
    by None e h = absurd (let no : None ≡ Some next = h in cc)
    by (Some mid) e h = record { mid = mid; made = e; more = h }

record HasDef (t : Tables) (row : Placed) : Type 0 where
  def : TableDef
  stands : def_at (catalog_of t) row.0 ≡ Some def

def_of : (t mid : Tables) (row : Placed) → apply_change (Insert row.0 row.1) t ≡ Some mid → HasDef t row
def_of t mid row made = by (def_at (catalog_of t) row.0) refl
  where
    by : (o : Option TableDef) → def_at (catalog_of t) row.0 ≡ o → HasDef t row
    by None e = absurd (not_there (Insert row.0 row.1) t e (ap is_some made))
    by (Some def) e = record { def = def; stands = e }

abbrev named_as : TableDef → Placed → NamedRow
named_as def row = record { name = record { table = row.0; key = key_of def row.1 }; row = row.1 }

pub named : (schema : Catalog) (rows : List Placed) (t next : Tables) (before : RowMap) → IsTables t → catalog_of t ≡ schema → ((table : ℕ) (key : Row) → before table key ≡ row_at t table key)
    → AllByRecursion IsPlaced rows → apply_all (inserts rows) t ≡ Some next → Named schema rows before
named schema [] t next before ok is same are made = record { list = []; placed = refl; allowed = tt; after = before; adds = λ table key. refl }
named schema (row ∷ rows) t next before ok is same are made =
    let f = first_of row rows t next made in
    let d = def_of t f.mid row f.made in
    let a = asked (Insert row.0 row.1) t f.mid d.def ok d.stands f.made in
    let it : NamedRow = named_as d.def row in
    let may : IsRowOf (def_at schema) it = record {
      number = are.0.table;
      encodable = are.0.row;
      def = d.def;
      stands = ap (λ (c : Catalog). def_at c row.0) (sym is) ∙ d.stands;
      fits = a.fit;
      key = refl;
    } in
    let one : PutOne schema t it = put_one schema t it (good_of schema t ok is) may a.there in
    let to : f.mid ≡ one.to = (let e : Some f.mid ≡ Some one.to = sym f.made ∙ one.made in cc) in
    let more : Named schema rows (with_row it before) = named schema rows one.to next (with_row it before) (acts_hold (OnRow (Insert row.0 row.1)) t one.to ok one.made) one.good.is
    (next_at schema t it one before same) are.1 (ap (apply_all (inserts rows)) (sym to) ∙ f.more) in
    record {
      list = it ∷ more.list;
      placed = ap (λ (l : List Placed). row ∷ l) more.placed;
      allowed = (may, more.allowed);
      after = more.after;
      adds = (same row.0 (key_of d.def row.1) ∙ a.there, more.adds);
    }

-- ---- whole pages

pub as_placed : (schema : Catalog) (bytes : List ℕ) (cells : List (List ℕ)) (list : List NamedRow) → IsCellPage bytes cells → cells ≡ cells_of list → AllByRecursion (IsRowOf (def_at schema)) list → IsRowPage bytes (map placed_of list)
as_placed schema bytes cells list page is are = record { cells = subst (IsCellPage bytes) (is ∙ sym (cells_same list)) page; encodable = are_placed schema list are }

pub as_named : (schema : Catalog) (bytes : List ℕ) (rows : List Placed) (before : RowMap) → IsRowPage bytes rows → (n : Named schema rows before) → heap.IsRowPage (def_at schema) bytes before n.after
as_named schema bytes rows before page n = record {
  cells = map cell_of rows;
  page = page.cells;
  are = record {
    list = n.list;
    cells_are = ap (map cell_of) (sym n.placed) ∙ cells_same n.list;
    allowed = n.allowed;
    adds = n.adds;
  };
}
