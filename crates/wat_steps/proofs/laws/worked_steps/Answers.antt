use Rattle.wat_steps.proofs.Worked.{inserts, waits}
use Rattle.wat_steps.proofs.laws.worked_steps.Goals as goal

pub returns-clause-inserts : goal.returns-clause-inserts
returns-clause-inserts c run asks = inserts run asks

pub returns-clause-waits : goal.returns-clause-waits
returns-clause-waits c run = waits run
