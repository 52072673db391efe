use Rattle.std.proofs.Common.{arith}
use Rattle.wat_undoable.proofs.Trying.{sets}
use Rattle.wat_undoable.proofs.trial.Trial.set.Goals as goal

pub returns-in-Ok : goal.returns-in-Ok
returns-in-Ok c placed = sets c.args.table c.args.key c.args.undone c.args.self.now _ _ placed (omega (arith, c.len-place.ensures, c.args.self.now.rows.ok.0)) c.in_ok-push.ensures.items c.in-Ok.ensures
