use Rattle.wat_tied.proofs.Granted.{visit_tied}
use Rattle.wat_tied.proofs.laws.visit_law.Goals as goal

pub returns : goal.returns
returns x e after c run tied going under scan taken met coming seen sees free progress goes same = visit_tied e after c run tied going under scan taken met coming seen sees free progress goes same
