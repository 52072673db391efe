-- Tables in memory with their indexes are a source of rows.
use Rattle.std.proofs.Common.{◌≡◌, ℕ, Bool, true, List, [], map, Option, Some, None, is_some, unwrap_or, refl, sym, ap, ◌∙◌, subst}
use Rattle.std.specs.Option.{option_map_or}
use Rattle.wat_list.specs.Has.{Has}
use Rattle.wat_value.specs.declared.bound.Bound.{Bound}
use Rattle.wat_value.specs.declared.definition.TableDef.{TableDef}
use Rattle.wat_value.specs.declared.change.Change.{Change}
use Rattle.wat_value.specs.declared.change.Change.TheVariants as change
use Rattle.wat_value.specs.declared.place.Place.{Place}
use Rattle.wat_value.specs.Bounds.{first_from}
use Rattle.wat_value.specs.Changes.{RowName, changed_row, changed_table, row_before, row_after}
use Rattle.wat_schema.specs.Catalog.{Catalog, def_at}
use Rattle.wat_schema.specs.Tables.{Row, Tables, apply_change, row_at}
use Rattle.wat_meaning.specs.Standing.{change_fits}
use Rattle.wat_isolation.specs.Rows.{set_row}
use Rattle.wat_isolation.specs.Sql.{sql, IndexName}
use Rattle.wat_scans.specs.Look.{IsOf, look}
use Rattle.wat_scans.specs.Running.{row_changed}
use Rattle.wat_scans.proofs.Applied.{AppliedOne, apply_one}
use Rattle.wat_scans.proofs.Found.{rows_fit}
use Rattle.wat_visits.specs.Sourced.{Sourced, IsSourced, IsFirstIn}
use Rattle.wat_indexes.specs.Kept.{AreKept, keys_of, kept_at, with_row_changed}
use Rattle.wat_indexes.proofs.KeptLemmas.{first_in, kept_after}
use Rattle.wat_indexed.specs.Indexed.{Indexed, StandsFor, after_change, sourced_after}

-- a change is of a row of its table
of_table : (o : Option TableDef) (ch : Change) → (option_map_or (λ def. changed_row def ch) o (record { table = changed_table ch; key = [] })).table ≡ changed_table ch
of_table None ch = refl
of_table (Some def) (change.Insert n row) = refl
of_table (Some def) (change.Update n old new) = refl
of_table (Some def) (change.Delete n old) = refl

pub row_found : (x : Indexed) (s : Sourced) (table : ℕ) (key : Row) (row : Option Row) → StandsFor x s → row ≡ row_at x.tables table key → row ≡ s.rows (record { table = table; key = key })
row_found x s table key row h e = e ∙ h.of.rows (record { table = table; key = key })

pub place_found : (x : Indexed) (s : Sourced) (i : IndexName) (from : Bound) (place : Place) → StandsFor x s → place ≡ first_from from (keys_of (kept_at x.kept i)) → IsFirstIn s i from place
place_found x s i from place h e = subst (IsFirstIn s i from) (sym e) (first_in s x.kept h.kept h.none i from)

module _ (x : Indexed) (s : Sourced) (ch : Change) (h : StandsFor x s) (fits : change_fits s.schema ch ≡ true) (before : s.rows (row_changed s.schema ch) ≡ row_before ch) where
  one : AppliedOne s.schema s.rows x.tables ch
  one = apply_one s.schema s.rows x.tables h.of ch fits before

  after_of : IsOf s.schema (set_row sql s.rows (row_changed s.schema ch) (row_after ch)) (unwrap_or (apply_change ch x.tables) x.tables)
  after_of = subst (IsOf s.schema (set_row sql s.rows (row_changed s.schema ch) (row_after ch))) (sym (ap (λ o. unwrap_or o x.tables) one.applies)) one.is

  pub made : StandsFor (after_change ch x) (sourced_after ch s)
  made = record {
    of = after_of;
    kept = subst (λ (n : ℕ). AreKept s.schema (set_row sql s.rows (row_changed s.schema ch) (row_after ch)) (map (with_row_changed n (row_before ch) (row_after ch)) x.kept)) (of_table (def_at s.schema (changed_table ch)) ch)
        (subst (λ (o : Option Row). AreKept s.schema (set_row sql s.rows (row_changed s.schema ch) (row_after ch)) (map (with_row_changed (row_changed s.schema ch).table o (row_after ch)) x.kept)) before
        (kept_after s.schema s.rows x.kept h.kept (row_changed s.schema ch) (row_after ch) (rows_fit s.schema s.rows x.tables h.of)
        (rows_fit s.schema (set_row sql s.rows (row_changed s.schema ch) (row_after ch)) (unwrap_or (apply_change ch x.tables) x.tables) after_of)));
    none = h.none;
  }
