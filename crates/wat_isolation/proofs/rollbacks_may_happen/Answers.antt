use Rattle.wat_isolation.specs.Machine.{start, run}
use Rattle.wat_isolation.specs.Sql.{sql}
use Rattle.wat_isolation.proofs.Steps.{rollback_runs}
use Rattle.wat_isolation.proofs.rollbacks_may_happen.Goals as goal

pub returns : goal.returns
returns c = record { runs = λ g base es d. rollback_runs sql d (run sql es (start sql g base)) }
