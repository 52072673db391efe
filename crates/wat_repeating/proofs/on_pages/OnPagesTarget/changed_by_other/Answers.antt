use Rattle.wat_pages.specs.Pages.{book_of}
use Rattle.wat_objects.specs.Objects.{pages_of}
use Rattle.wat_repeating.proofs.on_pages.OnPagesTarget.changed_by_other.Goals as goal

pub returns : goal.returns
returns g c s is = c.changed_by_other.ensures (book_of (g.D.Disk.told c.args.self.now.disk) (pages_of c.args.self.now.objects)) s is.holds.on
