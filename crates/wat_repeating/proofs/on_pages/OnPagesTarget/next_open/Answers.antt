use Rattle.wat_pages.specs.Pages.{book_of}
use Rattle.wat_objects.specs.Objects.{pages_of}
use Rattle.wat_repeating.proofs.on_pages.OnPagesTarget.next_open.Goals as goal

pub returns-clause-open : goal.returns-clause-open
returns-clause-open g c s is = c.next_open.ensures.open (book_of (g.D.Disk.told c.args.self.now.disk) (pages_of c.args.self.now.objects)) s is.holds.on
