use Rattle.wat_disk.proofs.Stops.{both_same}
use Rattle.wat_opening.proofs.empty.are_empty.Goals as goal

pub returns-in-Ok-false-is_empty-clause-stops : goal.returns-in-Ok-false-is_empty-clause-stops
returns-in-Ok-false-is_empty-clause-stops g c = both_same _ _ _ c.is_empty.ensures.stops c.is_empty-2.ensures.stops

pub returns-in-Err-is_empty-clause-stops : goal.returns-in-Err-is_empty-clause-stops
returns-in-Err-is_empty-clause-stops g c = both_same _ _ _ c.is_empty.ensures.stops c.is_empty-2.ensures.stops

pub returns-in-Ok-clause-stops : goal.returns-in-Ok-clause-stops
returns-in-Ok-clause-stops g c = both_same _ _ _ c.is_empty.ensures.stops (both_same _ _ _ c.is_empty-2.ensures.stops c.is_empty-3.ensures.stops)

pub returns-in-Err-is_empty-2-clause-stops : goal.returns-in-Err-is_empty-2-clause-stops
returns-in-Err-is_empty-2-clause-stops g c = both_same _ _ _ c.is_empty.ensures.stops (both_same _ _ _ c.is_empty-2.ensures.stops c.is_empty-3.ensures.stops)
