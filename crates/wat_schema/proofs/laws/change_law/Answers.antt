use Rattle.wat_schema.proofs.Changing.{schema_stays, stood_before, changes_one_row}
use Rattle.wat_schema.proofs.laws.change_law.Goals as goal

pub returns-clause-schema : goal.returns-clause-schema
returns-clause-schema c = schema_stays

pub returns-clause-before : goal.returns-clause-before
returns-clause-before c = stood_before

pub returns-clause-after : goal.returns-clause-after
returns-clause-after c = changes_one_row
