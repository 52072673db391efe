use Rattle.std.proofs.Common.{◌≡◌, ℕ, true, false, Some, refl, sym, ◌∙◌, subst}
use Rattle.wat_pages.specs.Pages.{book_of}
use Rattle.wat_value.specs.Fits.{key_of}
use Rattle.wat_rows.specs.Rows.{Row, Sets}
use Rattle.wat_schema.specs.Catalog.{def_at}
use Rattle.wat_schema.specs.Tables.{catalog_of, row_at}
use Rattle.wat_objects.proofs.Holding.{held, keyed, narrow, row_stands, rows_worked}
use Rattle.wat_objects.proofs.objects.Objects.put_row.Goals as goal

pub returns-in-Ok-false-clause-put : goal.returns-in-Ok-false-clause-put
returns-in-Ok-false-clause-put g c tells s t def h stands fit is same sets =
    let few = narrow s.tables c.args.table def c.args.row.now h.on.tables stands fit in
    absurd (let no : false ≡ true = sym c.in-Ok-false.field-0-test ∙ c.in-Ok-false.ensures.narrow.1 few in cc)

pub returns-in-Ok-put-clause-put : goal.returns-in-Ok-put-clause-put
returns-in-Ok-put-clause-put g c tells s t def h stands fit is same sets =
    let old = book_of (g.D.Disk.told c.args.disk.now) c.args.self.now.pages in
    let new = book_of (g.D.Disk.told c.put.new.disk) c.put.new.pages in
    let key : c.in-Ok.key ≡ key_of def c.args.row.now = keyed c.args.self.now.schema (catalog_of s.tables) c.args.table c.in-Some.def.now def c.in-Ok.key c.args.row.now c.in-Some.ensures h.on.schema stands c.in-Ok.ensures in
    record {
      known = (c.in-Ok-put.ensures.keeps tells).known;
      on = rows_worked old new c.args.self.now (record c.args.self.now { pages = c.put.new.pages; heap = c.put.new.self }) s t h.on
          (c.in-Ok-put.ensures.put tells h.on.owners h.on.free (def_at (catalog_of s.tables)) (row_at s.tables) (held old c.args.self.now s h.on) (row_at t)
          (row_stands (catalog_of s.tables) c.args.table c.in-Ok.key c.args.row.now def c.ranges.table.fits (c.in-Ok-true.ensures.encodable c.in-Ok-true.field-0-test) stands fit key)
          (subst (λ (k : Row). Sets (row_at s.tables) c.args.table k (Some c.args.row.now) (row_at t)) (sym key) sets))
          (record { schema = refl; catalog = refl; undo = refl; header = (c.put.ensures.goes tells).header }) is same;
    }

pub returns-clause-undamaged : goal.returns-clause-undamaged
returns-clause-undamaged g c tells saved safe count s h =
    c.in-Err-put.ensures.undamaged tells saved safe count h.on.owners h.on.free (def_at (catalog_of s.tables)) (row_at s.tables) (held (book_of (g.D.Disk.told c.args.disk.now) c.args.self.now.pages) c.args.self.now s h.on)
