use Rattle.wat_schema.proofs.Found.{known_by_number, listed_table, whole_at}
use Rattle.wat_schema.proofs.Placed.{table_placed}
use Rattle.wat_schema.proofs.laws.look_up_law.Goals as goal

pub returns-clause-named : goal.returns-clause-named
returns-clause-named c = known_by_number

pub returns-clause-whole : goal.returns-clause-whole
returns-clause-whole c = whole_at

pub returns-clause-listed : goal.returns-clause-listed
returns-clause-listed c = listed_table

pub returns-clause-placed : goal.returns-clause-placed
returns-clause-placed c t number x y named found other = table_placed number x y t other named found
