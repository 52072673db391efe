use Rattle.wat_replay.proofs.Committing.{frame_more, quiet_frame, body_more, restarts_once}
use Rattle.wat_replay.proofs.laws.committed_laws.Goals as goal

pub returns-clause-frame : goal.returns-clause-frame
returns-clause-frame c = frame_more

pub returns-clause-quiet : goal.returns-clause-quiet
returns-clause-quiet c = quiet_frame

pub returns-clause-body : goal.returns-clause-body
returns-clause-body c = body_more

pub returns-clause-restart : goal.returns-clause-restart
returns-clause-restart c = restarts_once
