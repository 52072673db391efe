use Rattle.std.proofs.Common.{refl}
use Rattle.wat_pages.proofs.Changed.{still_in}
use Rattle.wat_pages.proofs.pages.Pages.lay.Goals as goal

pub returns-clause-pages : goal.returns-clause-pages
returns-clause-pages g c tells saved safe count page below =
    still_in saved (g.D.Disk.told c.args.disk.now) (g.D.Disk.told c.lay_images.new.disk) c.args.self.now _ (g.met.D.Disk.reads_as_left c.args.disk.now tells) (g.met.D.Disk.reads_as_left c.lay_images.new.disk tells) safe
    (c.in_ok-lay_images.ensures.safe tells saved safe) count c.args.self.now.are_changed refl page below
