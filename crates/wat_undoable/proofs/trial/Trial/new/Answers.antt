use Rattle.wat_undoable.proofs.Trying.{new_trial}
use Rattle.wat_undoable.proofs.trial.Trial.new.Goals as goal

pub returns : goal.returns
returns c = new_trial _ c.new-places.ensures
