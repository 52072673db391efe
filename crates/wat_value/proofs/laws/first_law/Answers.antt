use Rattle.wat_value.proofs.FirstLemmas.{first_is}
use Rattle.wat_value.proofs.laws.first_law.Goals as goal

pub returns : goal.returns
returns c = first_is
