use Rattle.wat_held.proofs.Holding.{stands, saves}
use Rattle.wat_held.proofs.laws.held_laws.Goals as goal

pub returns : goal.returns
returns c = record { stands = stands; saves = saves }
