use Rattle.wat_history.proofs.SingleLemmas.{serial_alone, numbers_alone, open_alone, history_alone}
use Rattle.wat_history.proofs.WholeLemmas.{whole}
use Rattle.wat_history.proofs.laws.single_laws.Goals as goal

pub returns-clause-serial : goal.returns-clause-serial
returns-clause-serial c = serial_alone

pub returns-clause-numbers : goal.returns-clause-numbers
returns-clause-numbers c = numbers_alone

pub returns-clause-open_one : goal.returns-clause-open_one
returns-clause-open_one c = open_alone

pub returns-clause-history : goal.returns-clause-history
returns-clause-history c = history_alone

pub returns-clause-whole : goal.returns-clause-whole
returns-clause-whole c = whole
