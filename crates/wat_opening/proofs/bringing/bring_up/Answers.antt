use Rattle.wat_replay.specs.State.{undone}
use Rattle.wat_repeating.specs.MoveProofs.{moves_on}
use Rattle.wat_repeating.proofs.Moving.{not_damaged}
use Rattle.wat_opening.proofs.Brought.{table_there}
use Rattle.wat_opening.proofs.bringing.bring_up.Goals as goal

pub returns-then-behind-clause-brings : goal.returns-then-behind-clause-brings
returns-then-behind-clause-brings g c s is lawful =
    let r = c.in-Ok.ensures.repeated s is lawful in
    let u = table_there (undone r.0) r.3.undoes in
    record {
      now = r.0;
      tables = u.0;
      applied = r.1;
      lawful = r.3;
      committed = u.1;
      stands = c.in-Ok-roll_back_open.ensures.undone r.0 u.0 r.2 r.3 u.1;
      rolls = c.in-Ok-roll_back_open.ensures.rolls r.0 u.0 r.2 r.3 u.1;
    }

pub returns-then-behind-clause-moves : goal.returns-then-behind-clause-moves
returns-then-behind-clause-moves g c = moves_on _ c.repeat.new.on _ c.repeat.ensures.moves c.roll_back_open.ensures.moves

pub returns-else-behind-clause-brings : goal.returns-else-behind-clause-brings
returns-else-behind-clause-brings g c s is lawful =
    let r = c.in-Ok.ensures.repeated s is lawful in
    let u = table_there (undone r.0) r.3.undoes in
    record {
      now = r.0;
      tables = u.0;
      applied = r.1;
      lawful = r.3;
      committed = u.1;
      stands = c.in-Ok-roll_back_open.ensures.undone r.0 u.0 r.2 r.3 u.1;
      rolls = c.in-Ok-roll_back_open.ensures.rolls r.0 u.0 r.2 r.3 u.1;
    }

pub returns-else-behind-clause-moves : goal.returns-else-behind-clause-moves
returns-else-behind-clause-moves g c = moves_on _ c.repeat.new.on _ c.repeat.ensures.moves c.roll_back_open.ensures.moves

pub returns-in-Err-roll_back_open-clause-damaged : goal.returns-in-Err-roll_back_open-clause-damaged
returns-in-Err-roll_back_open-clause-damaged g c s head is lawful same =
    let r = c.in-Ok.ensures.repeated s is lawful in
    not_damaged c.in-Err-roll_back_open.refusal _ (c.in-Err-roll_back_open.ensures.undamaged r.0 r.2 r.3)

pub returns-in-Err-roll_back_open-clause-moves : goal.returns-in-Err-roll_back_open-clause-moves
returns-in-Err-roll_back_open-clause-moves g c = moves_on _ c.repeat.new.on _ c.repeat.ensures.moves c.roll_back_open.ensures.moves
