use Rattle.wat_pages.specs.Pages.{IsPagesOf}
use Rattle.wat_heap_times.proofs.rows.run.Given as goal

abbrev pub invariant-loop-turn : goal.invariant-loop-turn
invariant-loop-turn g l = g.D.Disk.tells_content → IsPagesOf (g.D.Disk.told l.disk) l.pages

abbrev pub invariant-loop-turn-2 : goal.invariant-loop-turn-2
invariant-loop-turn-2 g l = g.D.Disk.tells_content → IsPagesOf (g.D.Disk.told l.disk) l.pages
