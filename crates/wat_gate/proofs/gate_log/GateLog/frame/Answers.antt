use Rattle.wat_disk.proofs.Stops.{both_same}
use Rattle.wat_gate.proofs.gate_log.GateLog.frame.Goals as goal

pub returns-in-Ok-frame_at-clause-stops : goal.returns-in-Ok-frame_at-clause-stops
returns-in-Ok-frame_at-clause-stops g c = both_same _ _ _ c.place.ensures.stops c.frame_at.ensures.stops

pub returns-in-Err-frame_at-clause-stops : goal.returns-in-Err-frame_at-clause-stops
returns-in-Err-frame_at-clause-stops g c = both_same _ _ _ c.place.ensures.stops c.frame_at.ensures.stops
