use Rattle.wat_tied.proofs.Goes.{next_ready}
use Rattle.wat_tied.proofs.laws.ready_law.Goals as goal

pub returns : goal.returns
returns x e c run tied going under change coming = next_ready e c run tied going under change coming
