use Rattle.wat_one_history.proofs.OneHistory.{one_history}
use Rattle.wat_one_history.proofs.laws.one_history_law.Goals as goal

pub returns : goal.returns
returns g c before now start file base texts session good is =
    one_history (record { tells = g.D.Disk.tells_content; entry = g.D.Disk.told before; now = g.D.Disk.told now; start = start; file = file; base = base }) texts session good is
