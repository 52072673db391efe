use Rattle.wat_held.proofs.Owning.{are_owned}
use Rattle.wat_held.proofs.laws.owned_law.Goals as goal

pub returns : goal.returns
returns c = are_owned
