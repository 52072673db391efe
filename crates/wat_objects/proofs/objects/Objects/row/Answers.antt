use Rattle.std.proofs.Common.{refl}
use Rattle.wat_pages.specs.Pages.{book_of}
use Rattle.wat_schema.specs.Catalog.{def_at}
use Rattle.wat_schema.specs.Tables.{catalog_of, row_at}
use Rattle.wat_objects.proofs.Holding.{held, holds_same}
use Rattle.wat_objects.proofs.objects.Objects.row.Goals as goal

pub returns-in-Ok-clause-row : goal.returns-in-Ok-clause-row
returns-in-Ok-clause-row g c tells s h =
    c.in-Ok.ensures.row tells h.on.owners h.on.free (def_at (catalog_of s.tables)) (row_at s.tables) (held (book_of (g.D.Disk.told c.args.disk.now) c.args.self.now.pages) c.args.self.now s h.on)

pub returns-in-Ok-clause-holds : goal.returns-in-Ok-clause-holds
returns-in-Ok-clause-holds g c tells s h = record {
  known = (c.in-Ok.ensures.keeps tells).known;
  on = holds_same (book_of (g.D.Disk.told c.args.disk.now) c.args.self.now.pages) (book_of (g.D.Disk.told c.get.new.disk) c.get.new.pages) c.args.self.now (record c.args.self.now { pages = c.get.new.pages }) s h.on
      (c.in-Ok.ensures.same tells) (record { schema = refl; catalog = refl; undo = refl; header = c.get.ensures.head.header }) refl;
}

pub returns-in-Err-clause-undamaged : goal.returns-in-Err-clause-undamaged
returns-in-Err-clause-undamaged g c tells saved safe count s h =
    c.in-Err.ensures.undamaged tells saved safe count h.on.owners h.on.free (def_at (catalog_of s.tables)) (row_at s.tables) (held (book_of (g.D.Disk.told c.args.disk.now) c.args.self.now.pages) c.args.self.now s h.on)
