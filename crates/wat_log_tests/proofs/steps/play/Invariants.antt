use Rattle.wat_log.specs.Log.{IsOpenLog}
use Rattle.wat_log_tests.proofs.steps.play.Given as goal

abbrev pub invariant-loop-step : goal.invariant-loop-step
invariant-loop-step g l = g.D.Disk.tells_content → IsOpenLog (g.D.Disk.told l.disk) l.log
