use Rattle.wat_tied.proofs.Changed.{change_tied}
use Rattle.wat_tied.proofs.laws.change_law.Goals as goal

pub returns : goal.returns
returns x e after c run tied going under change coming formed stands l listing spots are free same = change_tied e after c run tied going under change coming formed stands l listing spots are free same
