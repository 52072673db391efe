use Rattle.wat_meaning.proofs.ActsApply.{rows_rise}
use Rattle.wat_meaning.proofs.Distinct.{passed_distinct}
use Rattle.wat_meaning.proofs.MadeFits.{made_fits}
use Rattle.wat_meaning.proofs.Orders as orders
use Rattle.wat_meaning.proofs.laws.made_laws.Goals as goal

pub returns-clause-keys : goal.returns-clause-keys
returns-clause-keys c t q met ok is = passed_distinct t q met (rows_rise t ok.rows) is

pub returns-clause-any_order : goal.returns-clause-any_order
returns-clause-any_order c catalog s rows met moved distinct = orders.any_order catalog rows met moved s distinct

pub returns-clause-fits : goal.returns-clause-fits
returns-clause-fits c = made_fits
