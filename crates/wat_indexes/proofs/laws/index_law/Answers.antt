use Rattle.wat_indexes.proofs.KeptLemmas.{first_in, kept_after}
use Rattle.wat_indexes.proofs.laws.index_law.Goals as goal

pub returns-clause-first : goal.returns-clause-first
returns-clause-first c s kept are none i from = first_in s kept are none i from

pub returns-clause-change : goal.returns-clause-change
returns-clause-change c k f kept are name after fit fit_after = kept_after k f kept are name after fit fit_after
