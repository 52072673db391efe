use Rattle.wat_core.proofs.SaveLemmas.{fresh_parts}
use Rattle.wat_core.proofs.laws.fresh_law.Goals as goal

pub returns : goal.returns
returns c = fresh_parts
