use Rattle.std.proofs.Common.{◌≡◌, sym, ◌∙◌}
use Rattle.wat_store.proofs.Safe.{safe_store}
use Rattle.wat_store.proofs.Storing.{not_refused}
use Rattle.wat_store.proofs.store.Store.checkpoint.Goals as goal

pub returns-in-Some-clause-stops : goal.returns-in-Some-clause-stops
returns-in-Some-clause-stops g c tells s t is = absurd (not_refused is.going c.in-Some.is)

pub returns-in-Some-clause-undamaged : goal.returns-in-Some-clause-undamaged
returns-in-Some-clause-undamaged g c tells s t is = absurd (not_refused is.going c.in-Some.is)

pub returns-in-Ok-clause-stands : goal.returns-in-Ok-clause-stands
returns-in-Ok-clause-stands g c tells s t is = record { going = is.going; is = c.in-Ok.ensures.stands tells s t is.is }

pub returns-in-Ok-clause-stops : goal.returns-in-Ok-clause-stops
returns-in-Ok-clause-stops g c tells s t is = c.save_all.ensures.stops tells s t is.is

pub returns-in-Err-clause-stops : goal.returns-in-Err-clause-stops
returns-in-Err-clause-stops g c tells s t is = c.save_all.ensures.stops tells s t is.is

pub returns-in-Err-clause-undamaged : goal.returns-in-Err-clause-undamaged
returns-in-Err-clause-undamaged g c tells s t is =
    c.in-Err.ensures.undamaged tells s (safe_store (g.D.Disk.told c.args.self.now.disk) c.args.self.now.objects c.args.self.now.log s t is.is)

pub returns-in-Some-clause-holds_undamaged : goal.returns-in-Some-clause-holds_undamaged
returns-in-Some-clause-holds_undamaged g c tells s is = absurd (not_refused is.going c.in-Some.is)

pub returns-in-Ok-clause-holds : goal.returns-in-Ok-clause-holds
returns-in-Ok-clause-holds g c tells s is = record { going = is.going; is = c.in-Ok.ensures.holds tells s is.is }

pub returns-in-Err-clause-holds_undamaged : goal.returns-in-Err-clause-holds_undamaged
returns-in-Err-clause-holds_undamaged g c tells s is = c.in-Err.ensures.undamaged tells s is.is
