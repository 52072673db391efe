use Rattle.std.proofs.Common.{refl}
use Rattle.wat_store.proofs.store.Store.of.Goals as goal

pub returns-clause-stands : goal.returns-clause-stands
returns-clause-stands g c s t is = record { going = refl; is = is }

pub returns-clause-holds : goal.returns-clause-holds
returns-clause-holds g c s is = record { going = refl; is = is }
