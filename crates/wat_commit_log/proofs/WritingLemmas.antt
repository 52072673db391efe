-- What applies to the tables of a database can be written.
use Rattle.std.proofs.Common.{◌≡◌, ℕ, ◌+◌, ◌<◌, ◌≤◌, ◌^◌, Bool, true, false, ◌&&◌, ◌||◌, not, nat_lt, nat_le, List, [], ◌∷◌, ◌++◌, length, map, Option, Some, None, All, cond, refl, sym, ◌∙◌, ap, inl, inr, arith, append-nil}
use Rattle.std.specs.List.{list_all, list_any}
use Rattle.std.specs.Option.{option_map, option_and_then}
use Rattle.std.proofs.lemmas.Bool.{and_parts, or_parts, cases_Bool, ltb-false, leb-false}
use Rattle.std.proofs.lemmas.List.Elements.{All-nil, All-cons}
use Rattle.wat_value.specs.declared.value.Value.{Value}
use Rattle.wat_value.specs.declared.definition.TableDef.{TableDef}
use Rattle.wat_value.specs.declared.definition.IndexDef.{IndexDef}
use Rattle.wat_value.specs.declared.change.Change.{Change}
use Rattle.wat_value.specs.declared.change.Change.TheVariants.{Insert, Update, Delete}
use Rattle.wat_value.specs.declared.change.SchemaChange.{SchemaChange}
use Rattle.wat_value.specs.declared.change.SchemaChange.TheVariants.{CreateTable, DropTable, CreateIndex}
use Rattle.wat_value.specs.declared.change.Act.{Act}
use Rattle.wat_value.specs.declared.change.Act.TheVariants.{OnRow, OnSchema}
use Rattle.wat_value.specs.Encoding.{IsShort}
use Rattle.wat_value.specs.Fits.{fits, key_of}
use Rattle.wat_value.specs.Order.{key_eq}
use Rattle.wat_value.proofs.WidthLemmas.{short_row}
use Rattle.wat_schema.specs.Catalog.{Catalog, Listing, listing_at, repeats}
use Rattle.wat_schema.specs.Definitions.{allows, allows_index, allows_table, bad_definition, index_rules, is_definition, may_be_null, next_index, table_rules}
use Rattle.wat_schema.specs.Tables.{IsTables, Row, Table, Tables, after_alter, after_delete, after_insert, after_update, apply, apply_all, apply_change, catalog_of, has_key, has_row, is_table, listing_of, rising, row_eq, by_key, table_at, with_row}
use Rattle.wat_schema.proofs.Database.{acts_hold}
use Rattle.wat_schema.proofs.Found.{listed_table, whole_at}
use Rattle.wat_schema.proofs.Keeping.{may_index, may_table, no_index, none_broken}
use Rattle.wat_schema.proofs.Placed.{Changed, changed, good_found}
use Rattle.wat_schema.proofs.TableLaws.{equal, taken}
use Rattle.wat_schema.proofs.Wide.{wide_row}
use Rattle.wat_log_record.specs.Encoding.{IsWritableChange, IsWritableSchema}
use Rattle.wat_commit_log.specs.Pending.{IsWritableAct}

-- a row that fits a table that stands
fit_row : (t : Tables) (n : ℕ) (x : Table) (row : List Value) → IsTables t → table_at t n ≡ Some x → fits x.def row ≡ true → IsShort row
fit_row t n x row ok found fit =
    let listing : listing_at (catalog_of t) n ≡ Some (listing_of x) = listed_table t n ∙ ap (option_map listing_of) found in
    let whole = whole_at (catalog_of t) n (listing_of x) ok.catalog listing in
    let wide = wide_row (listing_of x) row whole fit in
    short_row row (omega (arith, wide))

-- a row that stands fits
stands_fit : (def : TableDef) (before : Row) (rows : List Row) → list_all (fits def) rows ≡ true → list_any (row_eq before) rows ≡ true → fits def before ≡ true
stands_fit def before [] all h = cc
stands_fit def before (row ∷ rows) all h =
    let parts = and_parts (fits def row) (list_all (fits def) rows) all in
    elim (cases_Bool (row_eq before row)) [
      | inl same ↦ ap (fits def) (equal before row same) ∙ parts.0
      | inr other ↦ stands_fit def before rows parts.1 (sym (ap (λ (b : Bool). b || list_any (row_eq before) rows) other) ∙ h)
    ]

rows_fit : (t : Tables) (n : ℕ) (x : Table) → IsTables t → table_at t n ≡ Some x → list_all (fits x.def) x.rows ≡ true
rows_fit t n x ok found = (and_parts (list_all (fits x.def) x.rows) (rising (by_key x.def) x.rows) (good_found n x t.tables ok.rows found).ok).0

before_short : (t : Tables) (n : ℕ) (x : Table) (before : Row) → IsTables t → table_at t n ≡ Some x → has_row x before ≡ true → IsShort before
before_short t n x before ok found stands = fit_row t n x before ok found (stands_fit x.def before x.rows (rows_fit t n x ok found) stands)

pub change_writable : (change : Change) (t u : Tables) → IsTables t → apply_change change t ≡ Some u → IsWritableChange change
change_writable (Insert n row) t u ok h =
    let p = changed n (after_insert row) t u h in
    let x = p.from in
    let got = taken (fits x.def row && not (has_key x (key_of x.def row))) (record x { rows = with_row x.def row x.rows }) p.to p.made in
    fit_row t n x row ok p.found (and_parts (fits x.def row) (not (has_key x (key_of x.def row))) got.0).0
change_writable (Update n before after) t u ok h =
    let p = changed n (after_update before after) t u h in
    let x = p.from in
    let got = taken (has_row x before && key_eq (key_of x.def before) (key_of x.def after) && fits x.def after) (record x { rows = map (λ row. cond (row_eq row before) after row) x.rows }) p.to p.made in
    let outer = and_parts (has_row x before && key_eq (key_of x.def before) (key_of x.def after)) (fits x.def after) got.0 in
    let inner = and_parts (has_row x before) (key_eq (key_of x.def before) (key_of x.def after)) outer.0 in
    (before_short t n x before ok p.found inner.0, fit_row t n x after ok p.found outer.1)
change_writable (Delete n before) t u ok h =
    let p = changed n (after_delete before) t u h in
    let x = p.from in
    let got = taken (has_row x before) (record x { rows = _ }) p.to p.made in
    before_short t n x before ok p.found got.0

few_columns : (def : TableDef) → is_definition false def ≡ true → (length def.columns ≤ 64) × (length def.key ≤ 16)
few_columns def good =
    let kept = and_parts (not (may_be_null def.columns def.key)) _ good in
    let fourth = none_broken (table_rules false def.columns (def.key ∷ [])) 1 3 (nat_lt 64 (length def.columns) || nat_lt 16 (length (def.key ++ []))) kept.1 refl in
    let parts = or_parts (nat_lt 64 (length def.columns)) (nat_lt 16 (length (def.key ++ []))) fourth in
    (ltb-false 64 (length def.columns) parts.0, ltb-false 16 (length def.key) (ap (λ (key : List ℕ). nat_lt 16 (length key)) (sym (append-nil def.key)) ∙ parts.1))

index_writable : (index : IndexDef) (c : Catalog) (o : Option Listing) → allows_index c index ≡ true → o ≡ listing_at c index.table → IsWritableSchema (CreateIndex index)
index_writable index c None allowed none = absurd (no_index c index allowed none)
index_writable index c (Some t) allowed stands =
    let may = may_index c index t allowed stands in
    let third = none_broken (index_rules t index.columns) 1 2 _ may.right refl in
    let parts = or_parts _ (nat_lt 16 (length index.columns)) third in
    let few = ltb-false 16 (length index.columns) parts.1 in
    record { number = omega (arith, may.next); columns = omega (arith, few) }

pub schema_writable : (change : SchemaChange) (c : Catalog) → allows change c ≡ true → IsWritableSchema change
schema_writable (CreateTable def) c allowed =
    let few = few_columns def (may_table c def allowed).good in
    record { columns = omega (arith, few.0); key = omega (arith, few.1) }
schema_writable (DropTable table) c allowed = tt
schema_writable (CreateIndex index) c allowed = index_writable index c (listing_at c index.table) allowed refl

schema_allowed : (b : Bool) (after u : Tables) → cond b (Some after) None ≡ Some u → b ≡ true
schema_allowed true after u h = refl
schema_allowed false after u h = cc

pub act_writable : (act : Act) (t u : Tables) → IsTables t → apply act t ≡ Some u → IsWritableAct act
act_writable (OnRow change) t u ok h = change_writable change t u ok h
act_writable (OnSchema change) t u ok h = schema_writable change (catalog_of t) (schema_allowed (allows change (catalog_of t)) (after_alter change t) u h)

-- acts that apply one after another
pub acts_writable : (acts : List Act) (t u : Tables) → IsTables t → apply_all acts t ≡ Some u → All IsWritableAct acts
acts_writable [] t u ok h = All-nil IsWritableAct
acts_writable (act ∷ acts) t u ok h = first (λ mid good later. acts_writable acts mid u good later) (apply act t) refl h
  where
    first : ((mid : Tables) → IsTables mid → apply_all acts mid ≡ Some u → All IsWritableAct acts) → (o : Option Tables) → apply act t ≡ o → option_and_then (apply_all acts) o ≡ Some u → All IsWritableAct (act ∷ acts)
    first rest None is later = cc
    first rest (Some mid) is later = All-cons IsWritableAct act acts (act_writable act t mid ok is) (rest mid (acts_hold act t mid ok is) later)
