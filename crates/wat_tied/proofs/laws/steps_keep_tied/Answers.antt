use Rattle.std.proofs.Common.{subst}
use Rattle.wat_schema.specs.Tables.{Tables}
use Rattle.wat_history.specs.Serial.{Serial}
use Rattle.wat_tied.specs.Tied.{IsTied, parts_in}
use Rattle.wat_tied.proofs.Serially.{open_serial}
use Rattle.wat_tied.proofs.Stepping.{step_tied, sessions_tied, session_base}
use Rattle.wat_tied.proofs.laws.steps_keep_tied.Goals as goal

pub returns-clause-step : goal.returns-clause-step
returns-clause-step x e after c a tied step = step_tied e after c a tied step

pub returns-clause-runs : goal.returns-clause-runs
returns-clause-runs x base scripts tables steps last runs = sessions_tied base scripts tables steps last runs

pub returns-clause-serial : goal.returns-clause-serial
returns-clause-serial x base scripts tables steps last runs =
    let tied : IsTied last = sessions_tied base scripts tables steps last runs in
    (tied.ghost.history, subst (λ (z : Tables). Serial 3 z tied.ghost.history last.committed) (session_base base scripts steps last runs) tied.ties.serial, λ c. let r = open_serial last tied c in (parts_in (tied.ghost.entries c), r.0, r.1))
