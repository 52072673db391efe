use Rattle.wat_held.proofs.Opened.{opened_stands, opened_owned}
use Rattle.wat_held.proofs.laws.opened_law.Goals as goal

pub returns : goal.returns
returns c = record { stands = opened_stands; owned = opened_owned }
