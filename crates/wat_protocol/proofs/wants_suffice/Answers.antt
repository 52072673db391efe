use Rattle.wat_protocol.proofs.MoveLemmas.{asks}
use Rattle.wat_protocol.proofs.VisitLemmas.{position_has, past_has}
use Rattle.wat_protocol.proofs.wants_suffice.Goals as goal

pub returns-clause-change : goal.returns-clause-change
returns-clause-change c = λ cat s conn l change spots locks of are has. asks cat s l change of conn spots are locks has

pub returns-clause-position : goal.returns-clause-position
returns-clause-position c = λ cat s i key visit locks scheme of has. position_has cat s i key visit scheme of locks has

pub returns-clause-past : goal.returns-clause-past
returns-clause-past c = λ i q visit locks of has. past_has i q visit of locks has
