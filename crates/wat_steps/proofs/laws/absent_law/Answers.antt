use Rattle.wat_steps.proofs.Absent.{absent}
use Rattle.wat_steps.proofs.laws.absent_law.Goals as goal

pub returns : goal.returns
returns x base scripts c a after none step = absent base scripts c a after none step
