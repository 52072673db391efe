use Rattle.wat_keeping.proofs.Calls.{call_behind}
use Rattle.wat_keeping.proofs.laws.behind_law.Goals as goal

pub returns : goal.returns
returns g c old mid new = call_behind (g.D.Disk.told old) (g.D.Disk.told mid) (g.D.Disk.told new)
