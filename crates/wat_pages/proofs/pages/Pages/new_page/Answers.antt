use Rattle.std.proofs.Common.{arith}
use Rattle.wat_pages.specs.Pages.{book_of}
use Rattle.wat_pages.proofs.Changed.{first_below}
use Rattle.wat_pages.proofs.pages.Pages.new_page.Goals as goal

pub returns-clause-undamaged : goal.returns-clause-undamaged
returns-clause-undamaged g c tells saved owners free safe count owned =
    c.take_free.ensures.undamaged tells saved safe count (first_below (book_of (g.D.Disk.told c.args.disk.now) c.args.self.now) owners free owned.unused.chain (omega (arith, c.if-self-eq0.false)))
