use Rattle.wat_meaning.proofs.Examples.{insert_cases, update_cases, select_cases, key_cases, act_cases}
use Rattle.wat_meaning.proofs.laws.worked_cases.Goals as goal

pub returns-clause-inserts : goal.returns-clause-inserts
returns-clause-inserts c = insert_cases

pub returns-clause-updates : goal.returns-clause-updates
returns-clause-updates c = update_cases

pub returns-clause-others : goal.returns-clause-others
returns-clause-others c = select_cases

pub returns-clause-keys : goal.returns-clause-keys
returns-clause-keys c = key_cases

pub returns-clause-acts : goal.returns-clause-acts
returns-clause-acts c = act_cases
