use Rattle.wat_log.specs.Log.{IsOpenLog}
use Rattle.wat_log_tests.proofs.steps.read_back.Given as goal

abbrev pub invariant-loop-i : goal.invariant-loop-i
invariant-loop-i g l = g.D.Disk.tells_content → IsOpenLog (g.D.Disk.told l.disk) l.log
