use Rattle.std.proofs.Common.{◌≡◌, sym, ◌∙◌}
use Rattle.wat_store.proofs.Storing.{reserved}
use Rattle.wat_store.proofs.store.Store.reserve.Goals as goal

pub returns-clause-stands : goal.returns-clause-stands
returns-clause-stands g c s t is = record { going = is.going; is = reserved (g.D.Disk.told c.args.self.now.disk) c.args.self.now.objects c.args.self.now.log c.reserve.new.self s t is.is c.reserve.ensures.bytes c.reserve.ensures.gate }
