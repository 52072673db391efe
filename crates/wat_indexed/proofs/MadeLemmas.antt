-- A change that is made of tables with their indexes.
use Rattle.std.proofs.Common.{◌≡◌, ℕ, Bool, true, false, not, ◌&&◌, if◌then◌else◌, List, [], Option, Some, None, unwrap_or, refl, sym, ap, ◌∙◌, subst}
use Rattle.std.specs.Option.{option_map, option_map_or}
use Rattle.std.proofs.lemmas.Bool.{and_from, and_parts, both_ways}
use Rattle.wat_value.specs.declared.definition.TableDef.{TableDef}
use Rattle.wat_value.specs.declared.change.Change.{Change}
use Rattle.wat_value.specs.declared.change.Change.TheVariants as change
use Rattle.wat_value.specs.Changes.{RowName, changed_row, changed_table, row_after, row_before}
use Rattle.wat_value.specs.Fits.{fits, key_of}
use Rattle.wat_schema.specs.Catalog.{Catalog, Listing, def_at}
use Rattle.wat_schema.specs.Changes.{changed_key}
use Rattle.wat_schema.specs.Tables.{Row, Table, Tables, after_delete, after_insert, after_update, apply_change, catalog_of, has_key, has_row, listing_of, row_at, row_eq, table_at}
use Rattle.wat_schema.proofs.Changing.{stood_before}
use Rattle.wat_schema.proofs.Database.{in_their_order}
use Rattle.wat_schema.proofs.Found.{listed_table}
use Rattle.wat_schema.proofs.Placed.{Changed, changed}
use Rattle.wat_meaning.specs.Standing.{change_fits}
use Rattle.wat_isolation.specs.Rows.{set_row}
use Rattle.wat_isolation.specs.Sql.{sql}
use Rattle.wat_scans.specs.Look.{IsOf, look}
use Rattle.wat_scans.specs.Running.{row_changed}
use Rattle.wat_scans.proofs.Applied.{AppliedOne, apply_one, named_by}
use Rattle.wat_visits.specs.Sourced.{Sourced}
use Rattle.wat_indexes.specs.Kept.{AreKept}
use Rattle.wat_indexed.specs.Indexed.{AreIndexed, Indexed, IsMade, StandsFor, after_change, sourced_after, sourced_of}
use Rattle.wat_indexed.proofs.SourceLemmas.{made}

-- tables that stand for some rows stand for their own
stands_itself : (x : Indexed) (s : Sourced) → StandsFor x s → AreIndexed x
stands_itself x s h = record {
  of = record { tables = h.of.tables; schema = refl; rows = λ r. refl };
  kept = subst (λ (z : Catalog × (RowName → Option Row)). AreKept z.0 z.1 x.kept) (λ i. (sym h.of.schema i, λ r. sym (h.of.rows r) i)) h.kept;
  none = refl;
}

pub made_where_fits : (x : Indexed) (ch : Change) → AreIndexed x → change_fits (catalog_of x.tables) ch ≡ true → look x.tables (row_changed (catalog_of x.tables) ch) ≡ row_before ch → IsMade x ch
made_where_fits x ch h fit before =
    let one : AppliedOne (catalog_of x.tables) (look x.tables) x.tables ch = apply_one (catalog_of x.tables) (look x.tables) x.tables h.of ch fit before in
    let stands = made x (sourced_of x) ch h fit before in
    record {
      applies = one.applies ∙ ap Some (sym (ap (λ o. unwrap_or o x.tables) one.applies));
      indexed = stands_itself (after_change ch x) (sourced_after ch (sourced_of x)) stands;
      schema = stands.of.schema;
      rows = λ i r. stands.of.rows r i;
    }

-- ---- a change that applies fits, and its row stands as it says

if_some : {A : Type 0} (b : Bool) (x y : A) → (if b then Some x else None) ≡ Some y → b ≡ true
if_some true x y e = refl
if_some false x y e = cc

def_is : (t : Tables) (n : ℕ) (x : Table) → table_at t n ≡ Some x → def_at (catalog_of t) n ≡ Some x.def
def_is t n x at = ap (option_map (λ (l : Listing). l.def)) (listed_table t n ∙ ap (option_map listing_of) at)

applied_def : (t after : Tables) (ch : Change) → apply_change ch t ≡ Some after → (def : TableDef) × (def_at (catalog_of t) (changed_table ch) ≡ Some def)
applied_def t after (change.Insert n row) e = let p = changed n (after_insert row) t after e in (p.from.def, def_is t n p.from p.found)
applied_def t after (change.Update n old new) e = let p = changed n (after_update old new) t after e in (p.from.def, def_is t n p.from p.found)
applied_def t after (change.Delete n old) e = let p = changed n (after_delete old) t after e in (p.from.def, def_is t n p.from p.found)

applied_fits : (t after : Tables) (ch : Change) → apply_change ch t ≡ Some after → change_fits (catalog_of t) ch ≡ true
applied_fits t after (change.Insert n row) e =
    let p = changed n (after_insert row) t after e in
    let x = p.from in
    let both = if_some (fits x.def row && not (has_key x (key_of x.def row))) (record x { rows = Rattle.wat_schema.specs.Tables.with_row x.def row x.rows }) p.to p.made in
    ap (λ o. option_map_or (λ (def : TableDef). fits def row) o false) (def_is t n x p.found) ∙ (and_parts (fits x.def row) (not (has_key x (key_of x.def row))) both).0
applied_fits t after (change.Update n old new) e =
    let p = changed n (after_update old new) t after e in
    let x = p.from in
    let all = if_some (has_row x old && row_eq (key_of x.def old) (key_of x.def new) && fits x.def new) (record x { rows = Rattle.std.specs.Prelude.map (λ row. if row_eq row old then new else row) x.rows }) p.to p.made in
    let first = and_parts (has_row x old && row_eq (key_of x.def old) (key_of x.def new)) (fits x.def new) all in
    let both = and_parts (has_row x old) (row_eq (key_of x.def old) (key_of x.def new)) first.0 in
    ap (λ o. option_map_or (λ (def : TableDef). row_eq (key_of def old) (key_of def new) && fits def new) o false) (def_is t n x p.found)
    ∙ and_from (row_eq (key_of x.def old) (key_of x.def new)) (fits x.def new) both.1 first.1
applied_fits t after (change.Delete n old) e =
    let p = changed n (after_delete old) t after e in
    ap (λ o. option_map_or (λ (def : TableDef). true) o false) (def_is t n p.from p.found)

name_parts : (def : TableDef) (ch : Change) → changed_row def ch ≡ record { table = changed_table ch; key = changed_key def ch }
name_parts def (change.Insert n row) = refl
name_parts def (change.Update n old new) = refl
name_parts def (change.Delete n old) = refl

pub made_where_applies : (x : Indexed) (ch : Change) (after : Tables) → AreIndexed x → apply_change ch x.tables ≡ Some after → IsMade x ch
made_where_applies x ch after h e =
    let c = catalog_of x.tables in
    let d = applied_def x.tables after ch e in
    let before : look x.tables (row_changed c ch) ≡ row_before ch =
    ap (look x.tables) (named_by c ch d.0 d.1 ∙ name_parts d.0 ch) ∙ stood_before ch x.tables after d.0 (in_their_order x.tables h.of.tables) e d.1 in
    made_where_fits x ch h (applied_fits x.tables after ch e) before
