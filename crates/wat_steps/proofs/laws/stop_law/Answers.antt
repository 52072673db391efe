use Rattle.wat_steps.proofs.Stopped.{has_stopped}
use Rattle.wat_steps.proofs.laws.stop_law.Goals as goal

pub returns : goal.returns
returns x e after c a reason stopped step = has_stopped e after c a reason stopped step
