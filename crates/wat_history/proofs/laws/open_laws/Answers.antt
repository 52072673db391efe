use Rattle.wat_history.proofs.OpenLemmas.{stands}
use Rattle.wat_history.proofs.laws.open_laws.Goals as goal

pub returns : goal.returns
returns c = stands
