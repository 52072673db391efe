use Rattle.std.proofs.Common.{◌≡◌, ℕ, None, refl, sym, subst}
use Rattle.wat_pages.specs.Pages.{book_of}
use Rattle.wat_value.specs.Fits.{key_of}
use Rattle.wat_rows.specs.Rows.{Row, Sets}
use Rattle.wat_schema.specs.Catalog.{def_at}
use Rattle.wat_schema.specs.Tables.{catalog_of, row_at}
use Rattle.wat_objects.proofs.Holding.{held, keyed, rows_worked}
use Rattle.wat_objects.proofs.objects.Objects.remove_row.Goals as goal

pub returns-in-Ok-remove-clause-removed : goal.returns-in-Ok-remove-clause-removed
returns-in-Ok-remove-clause-removed g c tells s t def h stands is same sets =
    let old = book_of (g.D.Disk.told c.args.disk.now) c.args.self.now.pages in
    let new = book_of (g.D.Disk.told c.remove.new.disk) c.remove.new.pages in
    let key : c.in-Ok.key ≡ key_of def c.args.row.now = keyed c.args.self.now.schema (catalog_of s.tables) c.args.table c.in-Some.def.now def c.in-Ok.key c.args.row.now c.in-Some.ensures h.on.schema stands c.in-Ok.ensures in
    record {
      known = (c.in-Ok-remove.ensures.keeps tells).known;
      on = rows_worked old new c.args.self.now (record c.args.self.now { pages = c.remove.new.pages; heap = c.remove.new.self }) s t h.on
          (c.in-Ok-remove.ensures.removed tells h.on.owners h.on.free (def_at (catalog_of s.tables)) (row_at s.tables) (held old c.args.self.now s h.on) (row_at t)
          (subst (λ (k : Row). Sets (row_at s.tables) c.args.table k None (row_at t)) (sym key) sets))
          (record { schema = refl; catalog = refl; undo = refl; header = (c.remove.ensures.goes tells).header }) is same;
    }

pub returns-clause-undamaged : goal.returns-clause-undamaged
returns-clause-undamaged g c tells saved safe count s h =
    c.in-Err-remove.ensures.undamaged tells saved safe count h.on.owners h.on.free (def_at (catalog_of s.tables)) (row_at s.tables) (held (book_of (g.D.Disk.told c.args.disk.now) c.args.self.now.pages) c.args.self.now s h.on)
