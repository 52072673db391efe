use Rattle.wat_schema.proofs.TableLaws.{inverse_gives_back}
use Rattle.wat_schema.proofs.laws.inverse_law.Goals as goal

pub returns : goal.returns
returns c = inverse_gives_back
