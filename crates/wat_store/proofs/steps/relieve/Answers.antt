use Rattle.wat_store.proofs.Ending.{stops_still}
use Rattle.wat_store.proofs.steps.relieve.Goals as goal

pub returns-then-buffered-le-BUFFER-clause-stops : goal.returns-then-buffered-le-BUFFER-clause-stops
returns-then-buffered-le-BUFFER-clause-stops g c tells s t is = stops_still (g.D.Disk.told c.args.disk.now) c.args.objects.now c.args.log.now s t t is
