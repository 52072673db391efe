use Rattle.std.proofs.Common.{refl}
use Rattle.wat_pages.specs.Pages.{book_of}
use Rattle.wat_objects.proofs.Altered.{parts_held, parts_worked}
use Rattle.wat_objects.proofs.objects.Objects.drop_row.Goals as goal

pub returns-in-Ok-clause-dropped : goal.returns-in-Ok-clause-dropped
returns-in-Ok-clause-dropped g c tells schema defs rows after h sets =
    let old = book_of (g.D.Disk.told c.args.disk.now) c.args.self.now.pages in
    let new = book_of (g.D.Disk.told c.remove.new.disk) c.remove.new.pages in
    parts_worked old new c.args.self.now (record c.args.self.now { pages = c.remove.new.pages; heap = c.remove.new.self }) schema defs rows after h
    (c.in-Ok.ensures.removed tells h.owners h.free defs rows (parts_held old c.args.self.now schema defs rows h) after sets) refl (c.remove.ensures.goes tells).header

pub returns-in-Err-clause-undamaged : goal.returns-in-Err-clause-undamaged
returns-in-Err-clause-undamaged g c tells saved safe count schema defs rows h =
    c.in-Err.ensures.undamaged tells saved safe count h.owners h.free defs rows (parts_held (book_of (g.D.Disk.told c.args.disk.now) c.args.self.now.pages) c.args.self.now schema defs rows h)
