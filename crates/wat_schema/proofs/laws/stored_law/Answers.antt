use Rattle.wat_schema.proofs.Made.{stored_once}
use Rattle.wat_schema.proofs.Whole.{empty_whole, stays_whole}
use Rattle.wat_schema.proofs.laws.stored_law.Goals as goal

pub returns-clause-empty : goal.returns-clause-empty
returns-clause-empty c = empty_whole

pub returns-clause-kept : goal.returns-clause-kept
returns-clause-kept c = stays_whole

pub returns-clause-one : goal.returns-clause-one
returns-clause-one c = stored_once
