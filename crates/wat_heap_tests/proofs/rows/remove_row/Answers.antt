use Rattle.wat_heap_tests.proofs.Known.{known}
use Rattle.wat_heap_tests.proofs.rows.remove_row.Goals as goal

pub returns : goal.returns
returns g c tells = known c.remove.result (g.D.Disk.told c.args.disk.now) (g.D.Disk.told c.remove.new.disk) c.remove.new.pages (c.remove.ensures.keeps tells)
