use Rattle.wat_pages.specs.Pages.{IsPagesOf}
use Rattle.wat_pages_tests.proofs.limits.taken.Given as goal

abbrev pub invariant-loop-within : goal.invariant-loop-within
invariant-loop-within g l = g.D.Disk.tells_content → IsPagesOf (g.D.Disk.told l.disk) l.pages
