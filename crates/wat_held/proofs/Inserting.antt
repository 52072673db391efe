-- Rows whose names stand nowhere are put into tables, one by one.
use Rattle.std.proofs.Common.{◌≡◌, ◌≢◌, ◌⊎◌, ⊎_elim, inl, inr, ℕ, ◌+◌, ◌<◌, ◌≤◌, ◌==◌, ◌&&◌, Bool, true, false, not, List, [], ◌∷◌, map, Option, Some, None, refl, sym, ◌∙◌, ap, ap₂, subst, arith, if◌then◌else◌}
use Rattle.std.specs.Prelude.{is_some, length}
use Rattle.std.specs.List.{find, list_all, AllByRecursion}
use Rattle.std.specs.Option.{option_map, option_and_then, option_or}
use Rattle.std.proofs.lemmas.Bool.{cases_Bool, eq-eqb}
use Rattle.wat_value.specs.declared.value.Value.{Value}
use Rattle.wat_value.specs.declared.definition.TableDef.{TableDef}
use Rattle.wat_value.specs.declared.change.Change.{Change}
use Rattle.wat_value.specs.declared.change.Change.TheVariants.{Insert}
use Rattle.wat_value.specs.declared.change.Act.TheVariants.{OnRow}
use Rattle.wat_value.specs.Order.{key_eq}
use Rattle.wat_value.specs.Fits.{fits, key_of}
use Rattle.wat_schema.specs.Catalog.{Catalog, Listing, listing_at, def_at}
use Rattle.wat_schema.specs.Tables.{Table, Tables, listing_of, catalog_of, table_at, row_with, row_at, has_key, with_row, after_insert, with_table, apply_change, apply_all, are_tables, is_table}
use Rattle.wat_schema.proofs.Found.{listed_table}
use Rattle.wat_schema.proofs.Placed.{made_on}
use Rattle.wat_schema.proofs.TableLaws.{itself, equal, act_keeps}
use Rattle.wat_schema.proofs.Changing.{schema_stays, changes_one_row}
use Rattle.wat_rows.specs.declared.name.RowName.{RowName}
use Rattle.wat_rows.specs.Rows.{Row, NamedRow, name_is, names_of, row_named, times, IsRowOf}
use Rattle.wat_files.specs.Rows.{Placed, inserts}

-- tables of this schema
pub record Good (schema : Catalog) (t : Tables) : Type 0 where
  pub tables : are_tables t ≡ true
  pub is : catalog_of t ≡ schema

abbrev pub placed_of : NamedRow → Placed
placed_of it = (it.name.table, it.row)

-- ---- one row

-- the table of a definition that stands
record Found (t : Tables) (number : ℕ) (def : TableDef) : Type 0 where
  table : Table
  there : table_at t number ≡ Some table
  is : table.def ≡ def

def_in : (o : Option Table) (def : TableDef) → option_map (λ (x : Listing). x.def) (option_map listing_of o) ≡ Some def → (x : Table) × (o ≡ Some x) × (x.def ≡ def)
def_in None def e = absurd (let no : None ≡ Some def = e in cc)
def_in (Some x) def e = (x, refl, (let same : Some x.def ≡ Some def = e in cc))

abbrev After : Tables → NamedRow → ℕ → Row → Option Row
After t it number key = if name_is number key it.name then Some it.row else row_at t number key

pub record PutOne (schema : Catalog) (t : Tables) (it : NamedRow) : Type 0 where
  pub to : Tables
  pub made : apply_change (Insert it.name.table it.row) t ≡ Some to
  pub good : Good schema to
  pub at : (number : ℕ) (key : Row) → row_at to number key ≡ After t it number key

no_key : (o : Option Row) → o ≡ None → is_some o ≡ false
no_key None e = refl
no_key (Some row) e = cc

taken : (row : Row) (x : Table) → fits x.def row ≡ true → has_key x (key_of x.def row) ≡ false → after_insert row x ≡ Some (record x { rows = with_row x.def row x.rows })
taken row x fit none =
    ap (λ b. if b && not (has_key x (key_of x.def row)) then Some (record x { rows = with_row x.def row x.rows }) else None) fit
    ∙ ap (λ b. if not b then Some (record x { rows = with_row x.def row x.rows }) else None) none

pub put_one : (schema : Catalog) (t : Tables) (it : NamedRow) → Good schema t → IsRowOf (def_at schema) it → row_at t it.name.table it.name.key ≡ None → PutOne schema t it
put_one schema t it good is none =
    let n = it.name.table in
    let stands : def_at (catalog_of t) n ≡ Some is.def = ap (λ (c : Catalog). def_at c n) good.is ∙ is.stands in
    let found = def_in (table_at t n) is.def (ap (option_map (λ (x : Listing). x.def)) (sym (listed_table t n)) ∙ stands) in
    let x = found.0 in
    let key : key_of x.def it.row ≡ it.name.key = ap (λ (def : TableDef). key_of def it.row) found.2 ∙ sym is.key in
    let free : row_with x (key_of x.def it.row) ≡ None = ap (row_with x) key ∙ sym (ap (option_and_then (λ (y : Table). row_with y it.name.key)) found.1) ∙ none in
    let fit : fits x.def it.row ≡ true = ap (λ (def : TableDef). fits def it.row) found.2 ∙ is.fits in
    let y : Table = record x { rows = with_row x.def it.row x.rows } in
    let made : apply_change (Insert n it.row) t ≡ Some (with_table n t y) = made_on n (after_insert it.row) t x y found.1 (taken it.row x fit (no_key (row_with x (key_of x.def it.row)) free)) in
    record {
      to = with_table n t y;
      made = made;
      good = record { tables = act_keeps (OnRow (Insert n it.row)) t (with_table n t y) good.tables made; is = schema_stays (Insert n it.row) t (with_table n t y) good.tables made ∙ good.is };
      at = λ number k.
          changes_one_row (Insert n it.row) t (with_table n t y) is.def good.tables made stands number k
          ∙ ap (λ (own : Row). if (n == number) && key_eq own k then Some it.row else row_at t number k) (sym is.key);
    }

-- ---- many rows

named_itself : (name : RowName) → name_is name.table name.key name ≡ true
named_itself name = ap (λ b. b && key_eq name.key name.key) (eq-eqb name.table name.table refl) ∙ itself name.key

none_further : (table : ℕ) (key : Row) (it : NamedRow) (rows : List NamedRow) (b : Bool) → name_is table key it.name ≡ b → (if b then 1 else 0) + times table key (names_of rows) ≡ 0
    → (times table key (names_of rows) ≡ 0 → row_named table key rows ≡ None) → row_named table key (it ∷ rows) ≡ None
none_further table key it rows true is sum later = absurd (omega (arith, sum))
none_further table key it rows false is sum later =
    ap (λ b. option_map (λ (x : NamedRow). x.row) (if b then Some it else find (λ (x : NamedRow). name_is table key x.name) rows)) is ∙ later (omega (arith, sum))

pub none_named : (table : ℕ) (key : Row) (rows : List NamedRow) → times table key (names_of rows) ≡ 0 → row_named table key rows ≡ None
none_named table key [] e = refl
none_named table key (it ∷ rows) e = none_further table key it rows (name_is table key it.name) refl e (none_named table key rows)

pub record PutAll (schema : Catalog) (t : Tables) (rows : List NamedRow) : Type 0 where
  pub to : Tables
  pub made : apply_all (inserts (map placed_of rows)) t ≡ Some to
  pub good : Good schema to
  pub at : (table : ℕ) (key : Row) → row_at to table key ≡ option_or (row_named table key rows) (row_at t table key)

first_named : (table : ℕ) (key : Row) (it : NamedRow) (rows : List NamedRow) (b : Bool) → name_is table key it.name ≡ b → row_named table key (it ∷ rows) ≡ (if b then Some it.row else row_named table key rows)
first_named table key it rows true is = ap (λ b. option_map (λ (x : NamedRow). x.row) (if b then Some it else find (λ (x : NamedRow). name_is table key x.name) rows)) is
first_named table key it rows false is = ap (λ b. option_map (λ (x : NamedRow). x.row) (if b then Some it else find (λ (x : NamedRow). name_is table key x.name) rows)) is

first_times : (table : ℕ) (key : Row) (it : NamedRow) (rows : List NamedRow) (b : Bool) → name_is table key it.name ≡ b → times table key (names_of (it ∷ rows)) ≡ (if b then 1 else 0) + times table key (names_of rows)
first_times table key it rows b is = ap (λ c. (if c then 1 else 0) + times table key (names_of rows)) is

rest_new : (t to : Tables) (table : ℕ) (key : Row) (it : NamedRow) (rows : List NamedRow) (b : Bool) → row_at to table key ≡ After t it table key → times table key (names_of (it ∷ rows)) ≤ 1
    → (0 < times table key (names_of (it ∷ rows)) → row_at t table key ≡ None) → name_is table key it.name ≡ b → 0 < times table key (names_of rows) → row_at to table key ≡ None
rest_new t to table key it rows true at once new is some = absurd (omega (arith, first_times table key it rows true is, once, some))
rest_new t to table key it rows false at once new is some =
    at ∙ ap (λ b. if b then Some it.row else row_at t table key) is ∙ new (omega (arith, first_times table key it rows false is, some))

rest_once : (table : ℕ) (key : Row) (it : NamedRow) (rows : List NamedRow) (b : Bool) → name_is table key it.name ≡ b → times table key (names_of (it ∷ rows)) ≤ 1 → times table key (names_of rows) ≤ 1
rest_once table key it rows true is once = omega (arith, first_times table key it rows true is, once)
rest_once table key it rows false is once = omega (arith, first_times table key it rows false is, once)

-- the row at a name after one row and the others
after_all : (t to last : Tables) (table : ℕ) (key : Row) (it : NamedRow) (rows : List NamedRow) (b : Bool) → row_at to table key ≡ After t it table key → times table key (names_of (it ∷ rows)) ≤ 1
    → row_at last table key ≡ option_or (row_named table key rows) (row_at to table key) → name_is table key it.name ≡ b → row_at last table key ≡ option_or (row_named table key (it ∷ rows)) (row_at t table key)
after_all t to last table key it rows true at once more is =
    more ∙ ap (λ (o : Option Row). option_or o (row_at to table key)) (none_named table key rows (omega (arith, first_times table key it rows true is, once)))
    ∙ at ∙ ap (λ b. if b then Some it.row else row_at t table key) is
    ∙ sym (ap (λ (o : Option Row). option_or o (row_at t table key)) (first_named table key it rows true is))
after_all t to last table key it rows false at once more is =
    more ∙ ap (option_or (row_named table key rows)) (at ∙ ap (λ b. if b then Some it.row else row_at t table key) is)
    ∙ sym (ap (λ (o : Option Row). option_or o (row_at t table key)) (first_named table key it rows false is))

pub put_all : (schema : Catalog) (rows : List NamedRow) (t : Tables) → Good schema t → AllByRecursion (IsRowOf (def_at schema)) rows → ((table : ℕ) (key : Row) → times table key (names_of rows) ≤ 1)
    → ((table : ℕ) (key : Row) → 0 < times table key (names_of rows) → row_at t table key ≡ None) → PutAll schema t rows
put_all schema [] t good are once new = record { to = t; made = refl; good = good; at = λ table key. refl }
put_all schema (it ∷ rows) t good are once new =
    let mine : 0 < times it.name.table it.name.key (names_of (it ∷ rows)) = omega (arith, first_times it.name.table it.name.key it rows true (named_itself it.name)) in
    let one : PutOne schema t it = put_one schema t it good are.0 (new it.name.table it.name.key mine) in
    let more : PutAll schema one.to rows = put_all schema rows one.to one.good are.1
    (λ table key. rest_once table key it rows (name_is table key it.name) refl (once table key))
    (λ table key. rest_new t one.to table key it rows (name_is table key it.name) (one.at table key) (once table key) (new table key) refl) in
    record {
      to = more.to;
      made = ap (option_and_then (apply_all (inserts (map placed_of rows)))) one.made ∙ more.made;
      good = more.good;
      at = λ table key. after_all t one.to more.to table key it rows (name_is table key it.name) (one.at table key) (once table key) (more.at table key) refl;
    }
