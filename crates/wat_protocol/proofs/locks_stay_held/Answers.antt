use Rattle.wat_protocol.proofs.HeldLemmas.{granted, freed, ended, guarded}
use Rattle.wat_protocol.proofs.locks_stay_held.Goals as goal

pub returns-clause-begins : goal.returns-clause-begins
returns-clause-begins c = λ g base held d lock there. absurd there

pub returns-clause-granted : goal.returns-clause-granted
returns-clause-granted c = granted

pub returns-clause-freed : goal.returns-clause-freed
returns-clause-freed c = freed

pub returns-clause-ended : goal.returns-clause-ended
returns-clause-ended c = ended

pub returns-clause-guards : goal.returns-clause-guards
returns-clause-guards c = guarded
