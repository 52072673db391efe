-- What is read, step by step.
use Rattle.std.specs.Prelude.{◌≡◌, ℕ, List, Option, Some, None}
use Rattle.wat_restore.specs.Head.{Head}
use Rattle.wat_book.specs.Book.{Book}
use Rattle.wat_schema.specs.Catalog.{Catalog, def_at}
use Rattle.wat_schema.specs.Stored.{IsCatalog}
use Rattle.wat_schema.specs.Tables.{Tables, IsTables, catalog_of, row_at}
use Rattle.wat_replay.specs.State.{Lists}
use Rattle.wat_rows.specs.Rows.{Row, RowMap}
use Rattle.wat_directory.specs.declared.directory.Directory.{Directory}
use Rattle.wat_heap.specs.Heaps.{IsHeld}
use Rattle.wat_spelled.specs.Changes.{TellsLists}
use Rattle.wat_files.specs.Chains.{Chains}
use Rattle.wat_files.specs.Formed.{HoldsSchema, HoldsRows, CanUndo, state_of}
use Rattle.wat_held.specs.Owning.{owners_by}
use Rattle.wat_free_list.specs.Whole.{whole_pages}
use Rattle.wat_catalog_chain.specs.Definitions.{SpellsThis, SpellsBadSchema}

-- The payload spells this schema, or one that breaks a rule.
abbrev pub IfSpelled : List ℕ → ℕ → Option Catalog → Type 0
IfSpelled payload next None = SpellsBadSchema payload next
IfSpelled payload next (Some schema) = SpellsThis payload next schema

-- What the payloads of both chains tell: the schema, which breaks no rule, and the changes to roll back.
pub record TellParts (head : Head) (chains : Chains) (schema : Catalog) (lists : Lists) : Type 0 where
  pub holds : HoldsSchema head chains.schema schema
  pub tells : TellsLists head.rollback chains.changes lists
  pub catalog : IsCatalog schema

-- The rows of all other pages are the rows of tables, on which the changes can be undone, and the directory knows where they stand.
pub record HasRowsOf (book : Book) (head : Head) (chains : Chains) (schema : Catalog) (lists : Lists) (d : Directory) : Type 0 where
  pub t : Tables
  pub rows : HoldsRows (whole_pages book) head chains schema t
  pub tables : IsTables t
  pub is : catalog_of t ≡ schema
  pub map : RowMap
  pub at : (table : ℕ) (key : Row) → map table key ≡ row_at t table key
  pub held : IsHeld d book (owners_by chains) chains.free (def_at schema) map
  pub can : CanUndo (state_of t lists)
