use Rattle.wat_indexed.proofs.MadeLemmas.{made_where_applies, made_where_fits}
use Rattle.wat_indexed.proofs.laws.made_law.Goals as goal

pub returns-clause-fits : goal.returns-clause-fits
returns-clause-fits c = λ x change h fits before. made_where_fits x change h fits before

pub returns-clause-applies : goal.returns-clause-applies
returns-clause-applies c = λ x change after h applies. made_where_applies x change after h applies
