use Rattle.wat_tied.proofs.Goes.{reply_plain_now}
use Rattle.wat_tied.proofs.laws.plain_law.Goals as goal

pub returns : goal.returns
returns x e c run tied going under reply coming span more first least = reply_plain_now e c run tied going under reply coming span more first least
