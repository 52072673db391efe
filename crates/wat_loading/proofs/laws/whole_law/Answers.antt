use Rattle.wat_loading.proofs.Whole.{whole_first}
use Rattle.wat_loading.proofs.laws.whole_law.Goals as goal

pub returns : goal.returns
returns c = whole_first
