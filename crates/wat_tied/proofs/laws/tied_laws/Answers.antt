use Rattle.wat_tied.proofs.Beginning.{begins}
use Rattle.wat_tied.proofs.Serially.{open_serial}
use Rattle.wat_tied.proofs.Stopped.{stopped_tied, stops_tied}
use Rattle.wat_tied.proofs.Updated.{waiting_tied}
use Rattle.wat_tied.proofs.laws.tied_laws.Goals as goal

pub returns-clause-serial : goal.returns-clause-serial
returns-clause-serial x e tied = tied.ties.serial

pub returns-clause-open_ones : goal.returns-clause-open_ones
returns-clause-open_ones x e tied c = open_serial e tied c

pub returns-clause-begins : goal.returns-clause-begins
returns-clause-begins x base scripts tables = begins base scripts tables

pub returns-clause-stops : goal.returns-clause-stops
returns-clause-stops x e after c a reason tied step = stops_tied e after c a reason tied step

pub returns-clause-stopped : goal.returns-clause-stopped
returns-clause-stopped x e after c a reason tied stopped step = stopped_tied e after c a reason tied stopped step

pub returns-clause-waits : goal.returns-clause-waits
returns-clause-waits x e after c wants tied same = waiting_tied e after c wants tied same
