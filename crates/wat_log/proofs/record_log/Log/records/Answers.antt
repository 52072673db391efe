use Rattle.wat_disk.proofs.Stops.{both_same}
use Rattle.wat_log.proofs.record_log.Log.records.Goals as goal

pub returns-in-Ok-Some-clause-stops : goal.returns-in-Ok-Some-clause-stops
returns-in-Ok-Some-clause-stops g c = both_same _ _ _ c.place.ensures.stops c.records_at.ensures.stops

pub returns-in-Ok-None-clause-stops : goal.returns-in-Ok-None-clause-stops
returns-in-Ok-None-clause-stops g c = both_same _ _ _ c.place.ensures.stops c.records_at.ensures.stops

pub returns-in-Err-records_at-clause-stops : goal.returns-in-Err-records_at-clause-stops
returns-in-Err-records_at-clause-stops g c = both_same _ _ _ c.place.ensures.stops c.records_at.ensures.stops
