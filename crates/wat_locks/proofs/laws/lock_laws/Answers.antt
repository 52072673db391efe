use Rattle.wat_locks.specs.OrderLaws.{lock_cmp_total, lock_level, lock_itself}
use Rattle.wat_locks.proofs.HeldLemmas.{conflicts_back}
use Rattle.wat_locks.proofs.laws.lock_laws.Goals as goal

pub returns-clause-total : goal.returns-clause-total
returns-clause-total c = lock_cmp_total

pub returns-clause-level : goal.returns-clause-level
returns-clause-level c a b = (lock_level a b, lock_itself a b)

pub returns-clause-both_ways : goal.returns-clause-both_ways
returns-clause-both_ways c = conflicts_back
