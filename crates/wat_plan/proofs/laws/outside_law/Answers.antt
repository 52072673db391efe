use Rattle.wat_plan.proofs.OutsideLemmas.{outside}
use Rattle.wat_plan.proofs.laws.outside_law.Goals as goal

pub returns : goal.returns
returns c = λ p depth step outer other at same known out. outside p depth step outer other at same known out
