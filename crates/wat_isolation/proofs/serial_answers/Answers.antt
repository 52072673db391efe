-- Each clause is a field of what holds after every list of events.
use Rattle.std.proofs.Common.{subst}
use Rattle.wat_isolation.specs.Logs.{Alone}
use Rattle.wat_isolation.specs.Machine.{start, run}
use Rattle.wat_isolation.specs.Sql.{sql}
use Rattle.wat_isolation.proofs.Whole.{all_hold}
use Rattle.wat_isolation.proofs.serial_answers.Goals as goal

pub returns-clause-committed : goal.returns-clause-committed
returns-clause-committed c = λ g base es r. (all_hold sql g base es r).serial

pub returns-clause-uncommitted : goal.returns-clause-uncommitted
returns-clause-uncommitted c = λ g base es r d. subst (λ z. Alone sql (run sql es (start sql g base)).scheme z ((run sql es (start sql g base)).conns d).log) (all_hold sql g base es r).after ((all_hold sql g base es r).kept.open_serial d)
