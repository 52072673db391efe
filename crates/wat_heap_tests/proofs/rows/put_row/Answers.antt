use Rattle.wat_heap_tests.proofs.Known.{known}
use Rattle.wat_heap_tests.proofs.rows.put_row.Goals as goal

pub returns : goal.returns
returns g c tells = known c.put.result (g.D.Disk.told c.args.disk.now) (g.D.Disk.told c.put.new.disk) c.put.new.pages (c.put.ensures.keeps tells)
