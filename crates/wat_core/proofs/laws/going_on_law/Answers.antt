use Rattle.wat_core.proofs.SaveLemmas.{goes_on}
use Rattle.wat_core.proofs.laws.going_on_law.Goals as goal

pub returns : goal.returns
returns c = goes_on
