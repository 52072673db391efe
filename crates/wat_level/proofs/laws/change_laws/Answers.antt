use Rattle.wat_level.proofs.ChangeLaws.{wants_write, wants_left, wants_entered, wants_successor, wants_inherited}
use Rattle.wat_level.proofs.laws.change_laws.Goals as goal

pub returns-clause-row : goal.returns-clause-row
returns-clause-row c = wants_write

pub returns-clause-leaves : goal.returns-clause-leaves
returns-clause-leaves c = wants_left

pub returns-clause-comes : goal.returns-clause-comes
returns-clause-comes c = wants_entered

pub returns-clause-past : goal.returns-clause-past
returns-clause-past c = wants_successor

pub returns-clause-inherits : goal.returns-clause-inherits
returns-clause-inherits c = wants_inherited
