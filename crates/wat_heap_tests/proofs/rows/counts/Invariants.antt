use Rattle.wat_pages.specs.Pages.{IsPagesOf}
use Rattle.wat_heap_tests.proofs.rows.counts.Given as goal

abbrev pub invariant-loop-one : goal.invariant-loop-one
invariant-loop-one g l = g.D.Disk.tells_content → IsPagesOf (g.D.Disk.told l.disk) l.pages

abbrev pub invariant-loop-page : goal.invariant-loop-page
invariant-loop-page g l = g.D.Disk.tells_content → IsPagesOf (g.D.Disk.told l.disk) l.pages
