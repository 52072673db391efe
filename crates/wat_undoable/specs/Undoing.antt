-- How changes are undone one by one.
use Rattle.std.specs.Prelude.{◌≡◌, ◌≢◌, ◌⊎◌, ℕ, Bool, true, false, List, Option, Some, None}
use Rattle.std.specs.List.{AllByRecursion}
use Rattle.wat_list.specs.Has.{Has}
use Rattle.wat_value.specs.declared.definition.TableDef.{TableDef}
use Rattle.wat_value.specs.declared.change.Change.{Change}
use Rattle.wat_value.specs.Changes.{changed_table, row_before}
use Rattle.wat_value.specs.Order.{key_eq}
use Rattle.wat_schema.specs.Catalog.{Catalog, def_at}
use Rattle.wat_schema.specs.Changes.{changed_key}
use Rattle.wat_schema.specs.Tables.{Tables, IsTables, catalog_of, row_at, apply_change, inverse}
use Rattle.wat_replay.specs.State.{Lists, undo, are_apart}
use Rattle.wat_rows.specs.Rows.{Row, RowMap}
use Rattle.wat_undoable.specs.declared.trial.Trial.{Trial}
use Rattle.wat_undoable.specs.declared.trial.Undone.{Undone}
use Rattle.wat_undoable.specs.Trial.{undone_at, row_now, IsPlaced}

-- The connection has a change of the row.
pub record Changes (schema : Catalog) (lists : Lists) (table : ℕ) (key : Row) (conn : ℕ) : Type 0 where
  pub change : Change
  pub has : Has change (lists conn)
  pub table_is : table ≡ changed_table change
  pub def : TableDef
  pub stands : def_at schema table ≡ Some def
  pub key_is : key_eq (changed_key def change) key ≡ true

-- These are the tables now, by the rows as they stood and what is known of those that were changed.
pub record Tried (schema : Catalog) (rows : RowMap) (lists : Lists) (u : Tables) (trial : Trial) : Type 0 where
  pub placed : IsPlaced trial
  pub tables : IsTables u
  pub is : catalog_of u ≡ schema
  pub at : (table : ℕ) (key : Row) → row_at u table key ≡ row_now trial rows table key
  pub owned : (table : ℕ) (key : Row) (undone : Undone) → undone_at trial table key ≡ Some undone → Changes schema lists table key undone.conn

-- The change's row is known, as one that this connection has changed.
pub record Claimed (schema : Catalog) (trial : Trial) (conn : ℕ) (change : Change) : Type 0 where
  pub def : TableDef
  pub stands : def_at schema (changed_table change) ≡ Some def
  pub undone : Undone
  pub at : undone_at trial (changed_table change) (changed_key def change) ≡ Some undone
  pub own : undone.conn ≡ conn

-- what was claimed is claimed still
abbrev pub Keeps : Catalog → Trial → Trial → Type 0
Keeps schema old new = (conn : ℕ) (change : Change) → Claimed schema old conn change → Claimed schema new conn change

-- two connections have changed one row
pub record Clashes (schema : Catalog) (lists : Lists) : Type 0 where
  pub a : ℕ
  pub b : ℕ
  pub others : a ≢ b
  pub clash : are_apart schema (lists a) (lists b) ≡ false

-- no other connection has changed the row, and it stands as it is before the change
pub record MayUndo (trial : Trial) (rows : RowMap) (conn table : ℕ) (key : Row) (change : Change) : Type 0 where
  pub own : (undone : Undone) → undone_at trial table key ≡ Some undone → undone.conn ≡ conn
  pub before : row_now trial rows table key ≡ row_before change

-- The change was undone.
pub record Undid (schema : Catalog) (rows : RowMap) (lists : Lists) (conn : ℕ) (change : Change) (u : Tables) (old new : Trial) : Type 0 where
  pub next : Tables
  pub made : apply_change (inverse change) u ≡ Some next
  pub tried : Tried schema rows lists next new
  pub claimed : Claimed schema new conn change
  pub keeps : Keeps schema old new

-- These changes of the connection were undone, the last one first.
pub record UndidAll (schema : Catalog) (rows : RowMap) (lists : Lists) (conn : ℕ) (changes : List Change) (v : Tables) (old new : Trial) : Type 0 where
  pub next : Tables
  pub undone : undo changes v ≡ Some next
  pub tried : Tried schema rows lists next new
  pub claimed : AllByRecursion (Claimed schema new conn) changes
  pub keeps : Keeps schema old new
