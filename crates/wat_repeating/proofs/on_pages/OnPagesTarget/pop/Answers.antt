use Rattle.std.proofs.Common.{refl}
use Rattle.wat_pages.specs.Pages.{book_of}
use Rattle.wat_objects.specs.Objects.{pages_of}
use Rattle.wat_repeating.proofs.Moving.{popped_on}
use Rattle.wat_repeating.proofs.on_pages.OnPagesTarget.pop.Goals as goal

pub returns-clause-popped : goal.returns-clause-popped
returns-clause-popped g c s is = popped_on c.args.self.now _ c.args.conn s c.pop.result is refl c.pop.ensures.pages refl (c.pop.ensures.popped (book_of (g.D.Disk.told c.args.self.now.disk) (pages_of c.args.self.now.objects)) s is.holds.on)
