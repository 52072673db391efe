use Rattle.std.proofs.Common.{◌≡◌, sym, ◌∙◌}
use Rattle.wat_store.proofs.Storing.{not_refused}
use Rattle.wat_store.proofs.store.Store.change.Goals as goal

pub returns-in-Some-clause-stops : goal.returns-in-Some-clause-stops
returns-in-Some-clause-stops g c tells s next t is applies = absurd (not_refused is.going c.in-Some.is)

pub returns-in-Some-clause-undamaged : goal.returns-in-Some-clause-undamaged
returns-in-Some-clause-undamaged g c tells s next t is applies = absurd (not_refused is.going c.in-Some.is)

pub returns-in-Ok-clause-changed : goal.returns-in-Ok-clause-changed
returns-in-Ok-clause-changed g c tells s next t is applies = record { going = is.going; is = c.in-Ok.ensures.changed tells s next t is.is applies }

pub returns-in-Ok-clause-stops : goal.returns-in-Ok-clause-stops
returns-in-Ok-clause-stops g c tells s next t is applies = c.make_change.ensures.stops tells s next t is.is applies

pub returns-in-Err-clause-stops : goal.returns-in-Err-clause-stops
returns-in-Err-clause-stops g c tells s next t is applies = c.make_change.ensures.stops tells s next t is.is applies

pub returns-in-Err-clause-undamaged : goal.returns-in-Err-clause-undamaged
returns-in-Err-clause-undamaged g c tells s next t is applies = c.in-Err.ensures.undamaged tells s t is.is
