use Rattle.wat_heap_tests.proofs.Known.{known}
use Rattle.wat_heap_tests.proofs.rows.has_row.Goals as goal

pub returns-in-Ok : goal.returns-in-Ok
returns-in-Ok g c tells = (c.in-Ok.ensures.keeps tells).known
