use Rattle.wat_pages.specs.Pages.{IsPagesOf}
use Rattle.wat_pages_tests.proofs.steps.play.Given as goal

abbrev pub invariant-loop-step : goal.invariant-loop-step
invariant-loop-step g l = g.D.Disk.tells_content → IsPagesOf (g.D.Disk.told l.disk) l.pages
