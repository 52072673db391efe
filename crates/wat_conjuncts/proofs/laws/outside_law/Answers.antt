use Rattle.wat_conjuncts.proofs.OutsideLemmas.{outside_false}
use Rattle.wat_conjuncts.proofs.laws.outside_law.Goals as goal

pub returns : goal.returns
returns c = λ condition earlier source columns outer other same known out. outside_false condition earlier source columns outer other same known out
