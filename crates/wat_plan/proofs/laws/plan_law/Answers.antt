use Rattle.wat_plan.proofs.EachLemmas.{plan_is}
use Rattle.wat_plan.proofs.laws.plan_law.Goals as goal

pub returns : goal.returns
returns c = λ catalog query is. plan_is catalog query is
