use Rattle.wat_tied.proofs.Refused.{refuse_tied, failed_tied, duplicate_tied, locked_tied}
use Rattle.wat_tied.proofs.Replying.{reply_tied}
use Rattle.wat_tied.proofs.laws.answer_law.Goals as goal

pub returns-clause-replies : goal.returns-clause-replies
returns-clause-replies x e after c run tied going under reply coming same = reply_tied e after c run tied going under reply coming same

pub returns-clause-refuses : goal.returns-clause-refuses
returns-clause-refuses x e after c run tied going under refusal coming same = refuse_tied e after c run tied going under refusal coming same

pub returns-clause-fails : goal.returns-clause-fails
returns-clause-fails x e after c run tied going under scan taken met coming seen sees free fails same = failed_tied e after c run tied going under scan taken met coming seen sees free fails same

pub returns-clause-duplicates : goal.returns-clause-duplicates
returns-clause-duplicates x e after c run tied going under change coming l listing other stands free same = duplicate_tied e after c run tied going under change coming l listing other stands free same

pub returns-clause-locked : goal.returns-clause-locked
returns-clause-locked x e after c run tied going under against same = locked_tied e after c run tied going under against same
