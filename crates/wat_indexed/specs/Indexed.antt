-- Tables in memory with their indexes, and what they stand for as a source of rows.
use Rattle.std.specs.Prelude.{◌≡◌, List, [], map, Some, unwrap_or}
use Rattle.wat_value.specs.declared.change.Change.{Change}
use Rattle.wat_value.specs.Changes.{changed_table, row_before, row_after}
use Rattle.wat_schema.specs.Tables.{Tables, apply_change, catalog_of}
use Rattle.wat_isolation.specs.Rows.{set_row}
use Rattle.wat_isolation.specs.Sql.{sql}
use Rattle.wat_scans.specs.Look.{IsOf, look}
use Rattle.wat_scans.specs.Running.{row_changed}
use Rattle.wat_visits.specs.Sourced.{Sourced}
use Rattle.wat_indexes.specs.Kept.{Kept, AreKept, with_row_changed}

pub record Indexed : Type 0 where
  pub tables : Tables
  pub kept : List Kept

-- the tables have these rows under this schema, the indexes have the keys of these rows, and no key is vacant
pub record StandsFor (x : Indexed) (s : Sourced) : Type 0 where
  pub of : IsOf s.schema s.rows x.tables
  pub kept : AreKept s.schema s.rows x.kept
  pub none : s.vacant ≡ []

-- with a change made
abbrev pub after_change : Change → Indexed → Indexed
after_change ch x = record { tables = unwrap_or (apply_change ch x.tables) x.tables; kept = map (with_row_changed (changed_table ch) (row_before ch) (row_after ch)) x.kept }

-- what a source stands for when a change of its rows is made
abbrev pub sourced_after : Change → Sourced → Sourced
sourced_after ch s = record s { rows = set_row sql s.rows (row_changed s.schema ch) (row_after ch) }

-- ---- by themselves

-- what they stand for by their own schema and rows
abbrev pub sourced_of : Indexed → Sourced
sourced_of x = record { schema = catalog_of x.tables; rows = look x.tables; vacant = [] }

-- the indexes are those of the tables
abbrev pub AreIndexed : Indexed → Type 0
AreIndexed x = StandsFor x (sourced_of x)

-- a change of a row is made: it applies, its row is what it leaves there, all others and the schema stay, and the indexes are those of the tables then
pub record IsMade (x : Indexed) (ch : Change) : Type 0 where
  pub applies : apply_change ch x.tables ≡ Some (after_change ch x).tables
  pub indexed : AreIndexed (after_change ch x)
  pub schema : catalog_of (after_change ch x).tables ≡ catalog_of x.tables
  pub rows : look (after_change ch x).tables ≡ set_row sql (look x.tables) (row_changed (catalog_of x.tables) ch) (row_after ch)
