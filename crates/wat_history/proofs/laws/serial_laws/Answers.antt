use Rattle.wat_history.proofs.SerialLemmas.{one_end, serial_makes, after_all, prefix_after, grows, goes_on, serial_higher}
use Rattle.wat_history.proofs.laws.serial_laws.Goals as goal

pub returns-clause-one : goal.returns-clause-one
returns-clause-one c = one_end

pub returns-clause-made : goal.returns-clause-made
returns-clause-made c = serial_makes

pub returns-clause-end_of : goal.returns-clause-end_of
returns-clause-end_of c = after_all

pub returns-clause-prefix : goal.returns-clause-prefix
returns-clause-prefix c = prefix_after

pub returns-clause-longer : goal.returns-clause-longer
returns-clause-longer c = grows

pub returns-clause-follows : goal.returns-clause-follows
returns-clause-follows c = goes_on

pub returns-clause-higher : goal.returns-clause-higher
returns-clause-higher c = serial_higher
