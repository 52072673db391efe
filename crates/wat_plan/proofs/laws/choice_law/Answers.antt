use Rattle.wat_plan.proofs.RankLemmas.{way_cmp_total, first_is}
use Rattle.wat_plan.proofs.laws.choice_law.Goals as goal

pub returns-clause-total : goal.returns-clause-total
returns-clause-total c = way_cmp_total

pub returns-clause-first : goal.returns-clause-first
returns-clause-first c = λ ways best is. first_is ways best is
