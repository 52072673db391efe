use Rattle.wat_schema.proofs.Alike.{same_tables}
use Rattle.wat_schema.proofs.laws.same_law.Goals as goal

pub returns : goal.returns
returns c = same_tables
