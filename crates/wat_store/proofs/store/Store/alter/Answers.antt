use Rattle.std.proofs.Common.{◌≡◌, sym, ◌∙◌}
use Rattle.wat_store.proofs.Storing.{not_refused}
use Rattle.wat_store.proofs.store.Store.alter.Goals as goal

pub returns-in-Some-clause-stops : goal.returns-in-Some-clause-stops
returns-in-Some-clause-stops g c tells s next t after is applies ends = absurd (not_refused is.going c.in-Some.is)

pub returns-in-Some-clause-undamaged : goal.returns-in-Some-clause-undamaged
returns-in-Some-clause-undamaged g c tells s t is = absurd (not_refused is.going c.in-Some.is)

pub returns-in-Some-clause-without : goal.returns-in-Some-clause-without
returns-in-Some-clause-without g c tells s next t after is applies ends = absurd (not_refused is.going c.in-Some.is)

pub returns-in-Ok-clause-altered : goal.returns-in-Ok-clause-altered
returns-in-Ok-clause-altered g c tells s next t after is applies ends = record { going = is.going; is = c.in-Ok.ensures.altered tells s next t after is.is applies ends }

pub returns-in-Ok-clause-stops : goal.returns-in-Ok-clause-stops
returns-in-Ok-clause-stops g c tells s next t after is applies ends = c.alter_schema.ensures.stops tells s next t after is.is applies ends

pub returns-in-Err-clause-stops : goal.returns-in-Err-clause-stops
returns-in-Err-clause-stops g c tells s next t after is applies ends = c.alter_schema.ensures.stops tells s next t after is.is applies ends

pub returns-in-Err-clause-undamaged : goal.returns-in-Err-clause-undamaged
returns-in-Err-clause-undamaged g c tells s t is = c.in-Err.ensures.undamaged tells s t is.is

pub returns-in-Err-clause-without : goal.returns-in-Err-clause-without
returns-in-Err-clause-without g c tells s next t after is applies ends = c.in-Err.ensures.without tells s next t after is.is applies ends
