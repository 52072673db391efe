use Rattle.wat_protocol.proofs.LockLemmas.{all_free}
use Rattle.wat_protocol.proofs.MoveLemmas.{change_may, look_may}
use Rattle.wat_protocol.proofs.VisitLemmas.{visit_may, past_may}
use Rattle.wat_protocol.proofs.granted_steps_may_happen.Goals as goal

pub returns-clause-change : goal.returns-clause-change
returns-clause-change c = change_may

pub returns-clause-position : goal.returns-clause-position
returns-clause-position c = visit_may

pub returns-clause-past : goal.returns-clause-past
returns-clause-past c = past_may

pub returns-clause-look : goal.returns-clause-look
returns-clause-look c = look_may

pub returns-clause-peek : goal.returns-clause-peek
returns-clause-peek c = λ s held conn r wants are free. all_free s held conn wants are free
