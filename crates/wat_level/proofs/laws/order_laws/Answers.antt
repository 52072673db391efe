use Rattle.wat_level.specs.Change.{asked_wants}
use Rattle.wat_level.proofs.ChangeLaws.{in_order_wanted, in_order_rising, wants_long}
use Rattle.wat_level.proofs.laws.order_laws.Goals as goal

pub returns-clause-all : goal.returns-clause-all
returns-clause-all c def change spots lock = in_order_wanted (asked_wants def change spots) lock

pub returns-clause-rising : goal.returns-clause-rising
returns-clause-rising c def change spots = in_order_rising (asked_wants def change spots)

pub returns-clause-long : goal.returns-clause-long
returns-clause-long c = wants_long
