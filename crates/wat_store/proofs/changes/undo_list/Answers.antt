use Rattle.std.proofs.lemmas.Result.{err_from_is_err_and}
use Rattle.wat_store.proofs.Storing.{short_undo}
use Rattle.wat_store.proofs.changes.undo_list.Goals as goal

pub undo_noted-requires-clause-short : goal.undo_noted-requires-clause-short
undo_noted-requires-clause-short g c = short_undo c.args.conn c.args.count

pub returns-in_err-undo_noted-clause-undamaged : goal.returns-in_err-undo_noted-clause-undamaged
returns-in_err-undo_noted-clause-undamaged g c tells s next t is applies =
    let p = err_from_is_err_and c.from_residual.result c.from_residual.ensures.1 in
    rw (p.1, p.2) (c.in_err-undo_noted.ensures.undamaged tells s next t is applies)
