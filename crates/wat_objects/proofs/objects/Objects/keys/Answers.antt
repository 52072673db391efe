use Rattle.wat_book.specs.Book.{section}
use Rattle.wat_rows.specs.Pages.{of_rows}
use Rattle.wat_schema.specs.Catalog.{def_at}
use Rattle.wat_schema.specs.Tables.{catalog_of, row_at}
use Rattle.wat_objects.proofs.objects.Objects.keys.Goals as goal

pub returns-clause-all : goal.returns-clause-all
returns-clause-all c book s h = c.keys.ensures.all (section book h.owners of_rows) (def_at (catalog_of s.tables)) (row_at s.tables) h.rows
