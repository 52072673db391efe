use Rattle.wat_interval.proofs.Exact.{holds_exactly}
use Rattle.wat_interval.proofs.Empty.{empty_holds_none}
use Rattle.wat_interval.proofs.laws.interval_law.Goals as goal

pub returns-clause-exact : goal.returns-clause-exact
returns-clause-exact c = λ columns key bound long. holds_exactly columns key bound long

pub returns-clause-empty : goal.returns-clause-empty
returns-clause-empty c = λ i key e. empty_holds_none i key e
