use Rattle.wat_isolation.specs.Naming.{owned}
use Rattle.wat_isolation.proofs.Naming.{has_key_in}
use Rattle.wat_isolation.proofs.keys_name_their_rows.Goals as goal

pub returns-clause-owned : goal.returns-clause-owned
returns-clause-owned c = λ s i r row x h. owned s i r row x h

pub returns-clause-has_key : goal.returns-clause-has_key
returns-clause-has_key c = λ s l index row at has. has_key_in s l index row at has
