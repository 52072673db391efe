use Rattle.wat_tied.specs.Tied.{IsTied}
use Rattle.wat_tied.proofs.Stepping.{sessions_tied, session_base}
use Rattle.wat_tied.proofs.Transcripts.{serial_told, session_history}
use Rattle.wat_tied.proofs.laws.transcripts_tell.Goals as goal

pub returns-clause-serial : goal.returns-clause-serial
returns-clause-serial x base scripts tables steps last runs =
    let tied : IsTied last = sessions_tied base scripts tables steps last runs in
    (tied.ghost.history, serial_told base last tied (session_base base scripts steps last runs))

pub returns-clause-session : goal.returns-clause-session
returns-clause-session x last session history of is = session_history last session history of is
