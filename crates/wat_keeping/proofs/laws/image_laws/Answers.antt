use Rattle.wat_keeping.proofs.Calls.{database, opens, once}
use Rattle.wat_keeping.proofs.laws.image_laws.Goals as goal

pub returns : goal.returns
returns c = record { database = database; opens = opens; once = once }
