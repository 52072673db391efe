use Rattle.wat_replay.proofs.Replaying.{empty_is_lawful, one_next, stays_lawful, all_stay_lawful, can_undo, replay_is_committed, reached}
use Rattle.wat_replay.proofs.laws.replay_laws.Goals as goal

pub returns-clause-empty : goal.returns-clause-empty
returns-clause-empty c = empty_is_lawful

pub returns-clause-one : goal.returns-clause-one
returns-clause-one c = one_next

pub returns-clause-lawful : goal.returns-clause-lawful
returns-clause-lawful c = stays_lawful

pub returns-clause-all_lawful : goal.returns-clause-all_lawful
returns-clause-all_lawful c = all_stay_lawful

pub returns-clause-undoing : goal.returns-clause-undoing
returns-clause-undoing c = can_undo

pub returns-clause-committed : goal.returns-clause-committed
returns-clause-committed c = replay_is_committed

pub returns-clause-reached : goal.returns-clause-reached
returns-clause-reached c = reached
