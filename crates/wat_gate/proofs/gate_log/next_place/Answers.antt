use Rattle.wat_disk.proofs.Stops.{both_same}
use Rattle.wat_gate.proofs.gate_log.next_place.Goals as goal

pub returns-in-Ok-Some-clause-stops : goal.returns-in-Ok-Some-clause-stops
returns-in-Ok-Some-clause-stops g c = both_same _ _ _ c.length.ensures.stops c.next_gate.ensures.stops

pub returns-in-Ok-None-clause-stops : goal.returns-in-Ok-None-clause-stops
returns-in-Ok-None-clause-stops g c = both_same _ _ _ c.length.ensures.stops c.next_gate.ensures.stops

pub returns-in-Err-next_gate-clause-stops : goal.returns-in-Err-next_gate-clause-stops
returns-in-Err-next_gate-clause-stops g c = both_same _ _ _ c.length.ensures.stops c.next_gate.ensures.stops
