use Rattle.wat_pages.specs.Pages.{IsPagesOf}
use Rattle.wat_pages_tests.proofs.steps.seen_on.Given as goal

abbrev pub invariant-loop-page : goal.invariant-loop-page
invariant-loop-page g l = g.D.Disk.tells_content → IsPagesOf (g.D.Disk.told l.disk) l.pages
