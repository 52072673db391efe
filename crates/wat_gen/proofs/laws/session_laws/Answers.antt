use Rattle.wat_gen.proofs.Counting.{script_count, statement_count, turn_count, turns_within}
use Rattle.wat_gen.proofs.Room.{texts_fit}
use Rattle.wat_gen.proofs.laws.session_laws.Goals as goal

pub returns-clause-scripts : goal.returns-clause-scripts
returns-clause-scripts c = script_count

pub returns-clause-statements : goal.returns-clause-statements
returns-clause-statements c = statement_count

pub returns-clause-turns : goal.returns-clause-turns
returns-clause-turns c = turn_count

pub returns-clause-connections : goal.returns-clause-connections
returns-clause-connections c = turns_within

pub returns-clause-room : goal.returns-clause-room
returns-clause-room c = texts_fit
