use Rattle.wat_disk.proofs.Stops.{none_same}
use Rattle.wat_gate.proofs.gate_log.read_more.Goals as goal

pub returns-then-is_err-clause-stops : goal.returns-then-is_err-clause-stops
returns-then-is_err-clause-stops g c = none_same _
