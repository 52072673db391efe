use Rattle.std.proofs.Common.{◌≡◌, sym, ◌∙◌}
use Rattle.wat_store.proofs.store.Store.commit.Goals as goal

pub returns-in-Ok-clause-committed : goal.returns-in-Ok-clause-committed
returns-in-Ok-clause-committed g c tells s next t after is applies ends = record { going = is.going; is = c.in-Ok.ensures.committed tells s next t after is.is applies ends }

pub returns-in-Ok-clause-stops : goal.returns-in-Ok-clause-stops
returns-in-Ok-clause-stops g c tells s next t after is applies ends = c.commit_list.ensures.stops tells s next t after is.is applies ends

pub returns-in-Err-clause-stops : goal.returns-in-Err-clause-stops
returns-in-Err-clause-stops g c tells s next t after is applies ends = c.commit_list.ensures.stops tells s next t after is.is applies ends
