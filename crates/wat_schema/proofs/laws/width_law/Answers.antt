use Rattle.wat_schema.proofs.Wide.{wide_row, wide_key, wide_index}
use Rattle.wat_schema.proofs.laws.width_law.Goals as goal

pub returns-clause-row : goal.returns-clause-row
returns-clause-row c = wide_row

pub returns-clause-key : goal.returns-clause-key
returns-clause-key c = wide_key

pub returns-clause-index : goal.returns-clause-index
returns-clause-index c = wide_index
