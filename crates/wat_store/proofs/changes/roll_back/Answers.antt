use Rattle.std.proofs.lemmas.Result.{err_from_is_err_and}
use Rattle.wat_store.proofs.Ending.{rolled_back, all_undone}
use Rattle.wat_store.proofs.Storing.{short_rollback}
use Rattle.wat_store.proofs.changes.roll_back.Goals as goal

pub undo_noted-requires-clause-says : goal.undo_noted-requires-clause-says
undo_noted-requires-clause-says g c s next applies = rolled_back s next c.args.conn applies

pub returns-clause-undone : goal.returns-clause-undone
returns-clause-undone g c tells s next t is applies = c.in_ok-undo_noted.ensures.undone tells s next t is (all_undone s next c.args.conn applies)

pub returns-clause-stops : goal.returns-clause-stops
returns-clause-stops g c tells s next t is applies = c.undo_noted.ensures.stops tells s next t is (all_undone s next c.args.conn applies)

pub returns-in_err-undo_noted-clause-stops : goal.returns-in_err-undo_noted-clause-stops
returns-in_err-undo_noted-clause-stops g c tells s next t is applies = c.undo_noted.ensures.stops tells s next t is (all_undone s next c.args.conn applies)

pub returns-in_err-undo_noted-clause-undamaged : goal.returns-in_err-undo_noted-clause-undamaged
returns-in_err-undo_noted-clause-undamaged g c tells s next t is applies =
    let p = err_from_is_err_and c.from_residual.result c.from_residual.ensures.1 in
    rw (p.1, p.2) (c.in_err-undo_noted.ensures.undamaged tells s next t is (all_undone s next c.args.conn applies))

pub undo_noted-requires-clause-short : goal.undo_noted-requires-clause-short
undo_noted-requires-clause-short g c = short_rollback c.args.conn
