use Rattle.wat_written_laws.proofs.Acts.{act_law, none_law}
use Rattle.wat_written_laws.proofs.written_acts_are_made.Goals as goal

pub returns-clause-made : goal.returns-clause-made
returns-clause-made c = act_law

pub returns-clause-unwritten : goal.returns-clause-unwritten
returns-clause-unwritten c = none_law
