use Rattle.std.proofs.Common.{◌≡◌, refl, sym, subst, arith}
use Rattle.std.specs.Prelude.{true, false}
use Rattle.wat_slot.specs.Cells.{cells_bytes, IsCellPage}
use Rattle.wat_cells.proofs.Then.{goes_nowhere, goes_by, keeps_by, keeps_still}
use Rattle.wat_cells.proofs.Edited.{no_room}
use Rattle.wat_cells.proofs.edit.write_cells.Goals as goal

pub returns-in_err-bytes-clause-goes : goal.returns-in_err-bytes-clause-goes
returns-in_err-bytes-clause-goes g c tells = goes_nowhere (g.D.Disk.told c.args.disk.now) c.args.pages.now

pub returns-then-not-put_cells-clause-goes : goal.returns-then-not-put_cells-clause-goes
returns-then-not-put_cells-clause-goes g c tells = goes_nowhere (g.D.Disk.told c.args.disk.now) c.args.pages.now

pub returns-then-not-put_cells-clause-keeps : goal.returns-then-not-put_cells-clause-keeps
returns-then-not-put_cells-clause-keeps g c tells = keeps_still (g.D.Disk.told c.args.disk.now) c.args.pages.now (c.requires.known tells)

pub returns-in-Ok-clause-goes : goal.returns-in-Ok-clause-goes
returns-in-Ok-clause-goes g c tells = goes_by (g.D.Disk.told c.args.disk.now) (g.D.Disk.told c.write_page.new.disk) c.args.pages.now c.write_page.new.self c.write_page.ensures.others c.write_page.ensures.same (c.write_page.ensures.stops tells)

pub returns-clause-goes : goal.returns-clause-goes
returns-clause-goes g c tells = goes_by (g.D.Disk.told c.args.disk.now) (g.D.Disk.told c.write_page.new.disk) c.args.pages.now c.write_page.new.self c.write_page.ensures.others c.write_page.ensures.same (c.write_page.ensures.stops tells)

pub returns-in-Ok-clause-keeps : goal.returns-in-Ok-clause-keeps
returns-in-Ok-clause-keeps g c tells = keeps_by (g.D.Disk.told c.args.disk.now) (g.D.Disk.told c.write_page.new.disk) c.write_page.new.self (c.in-Ok.ensures.known tells) (λ saved safe. c.in-Ok.ensures.safe tells saved safe)
