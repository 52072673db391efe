use Rattle.wat_meaning.proofs.ActsApply.{acts_apply}
use Rattle.wat_meaning.proofs.laws.acts_laws.Goals as goal

pub returns : goal.returns
returns c = record { apply = acts_apply }
