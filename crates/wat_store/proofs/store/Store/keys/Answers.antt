use Rattle.std.proofs.Common.{◌≡◌, sym, ◌∙◌}
use Rattle.wat_store.proofs.store.Store.keys.Goals as goal

pub returns-clause-all : goal.returns-clause-all
returns-clause-all g c s t is = c.keys.ensures.all _ s is.is.holds.on
