use Rattle.wat_isolation.specs.Sql.{sql}
use Rattle.wat_isolation.proofs.Noting.{vacant_positions}
use Rattle.wat_isolation.proofs.vacant_keys_are_positions.Goals as goal

pub returns : goal.returns
returns c = record { positions = λ g base es r list n i x. vacant_positions sql g base es r list n i x }
