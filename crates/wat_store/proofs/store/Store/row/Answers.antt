use Rattle.std.proofs.Common.{◌≡◌, sym, ◌∙◌}
use Rattle.wat_store.proofs.Standing.{stands_beside, stops_beside}
use Rattle.wat_store.proofs.Storing.{not_refused}
use Rattle.wat_store.proofs.store.Store.row.Goals as goal

pub returns-in-Some-clause-stops : goal.returns-in-Some-clause-stops
returns-in-Some-clause-stops g c tells s t is = absurd (not_refused is.going c.in-Some.is)

pub returns-in-Some-clause-undamaged : goal.returns-in-Some-clause-undamaged
returns-in-Some-clause-undamaged g c tells s t is = absurd (not_refused is.going c.in-Some.is)

pub returns-in-Ok-clause-row : goal.returns-in-Ok-clause-row
returns-in-Ok-clause-row g c tells s t is = c.in-Ok.ensures.row tells s is.is.holds

pub returns-in-Ok-clause-stands : goal.returns-in-Ok-clause-stands
returns-in-Ok-clause-stands g c tells s t is = record { going = is.going; is = stands_beside (g.D.Disk.told c.args.self.now.disk) (g.D.Disk.told c.row.new.disk) c.args.self.now.objects c.row.new.self c.args.self.now.log s t is.is (c.row.ensures.goes tells) (c.in-Ok.ensures.keeps tells) (c.in-Ok.ensures.holds tells s is.is.holds) }

pub returns-in-Ok-clause-stops : goal.returns-in-Ok-clause-stops
returns-in-Ok-clause-stops g c tells s t is = stops_beside (g.D.Disk.told c.args.self.now.disk) (g.D.Disk.told c.row.new.disk) c.args.self.now.objects c.row.new.self c.args.self.now.log s t is.is (c.row.ensures.goes tells)

pub returns-in-Err-clause-stops : goal.returns-in-Err-clause-stops
returns-in-Err-clause-stops g c tells s t is = stops_beside (g.D.Disk.told c.args.self.now.disk) (g.D.Disk.told c.row.new.disk) c.args.self.now.objects c.row.new.self c.args.self.now.log s t is.is (c.row.ensures.goes tells)

pub returns-in-Err-clause-undamaged : goal.returns-in-Err-clause-undamaged
returns-in-Err-clause-undamaged g c tells s t is = c.in-Err.ensures.undamaged tells is.is.kept.saved is.is.kept.durable.pages is.is.kept.counted s is.is.holds
