-- What the rows of the pages below a number give.
use Rattle.std.specs.Prelude.{◌≡◌, ℕ, ◌-◌, ◌&&◌, nat_le, nat_lt, nat_eq, not, List, Some, None, if◌then◌else◌}
use Rattle.std.specs.List.{list_any}
use Rattle.wat_book.specs.Book.{Book, Section}
use Rattle.wat_schema.specs.Catalog.{Catalog, def_at}
use Rattle.wat_schema.specs.Tables.{Tables, IsTables, catalog_of, row_at}
use Rattle.wat_rows.specs.Rows.{Row, RowMap}
use Rattle.wat_directory.specs.declared.directory.Directory.{Directory}
use Rattle.wat_directory.specs.Known.{Holds}
use Rattle.wat_files.specs.Rows.{emptied, AddsPages, pages_but}
use Rattle.wat_free_list.specs.Whole.{whole_pages}

-- the pages below a number that aren't listed, and not the header's
abbrev pub others_below : Book → List ℕ → ℕ → Section
others_below book listed end page =
    if nat_le 1 page && (nat_lt page end && not (list_any (nat_eq page) listed)) then Some (book.page page) else None

-- The rows of these pages, put into the schema's tables page by page, give tables, and the directory knows where each of their rows stands.
pub record TakesTo (book : Book) (listed : List ℕ) (schema : Catalog) (end : ℕ) (d : Directory) : Type 0 where
  pub t : Tables
  pub adds : AddsPages (whole_pages book) (pages_but listed 1 (end - 1)) (emptied schema) t
  pub tables : IsTables t
  pub is : catalog_of t ≡ schema
  pub rows : RowMap
  pub holds : Holds d (others_below book listed end) (def_at schema) rows
  pub at : (table : ℕ) (key : Row) → rows table key ≡ row_at t table key
