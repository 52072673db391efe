-- Three lengths change no file.
use Rattle.wat_disk.proofs.Stops.{both_same}
use Rattle.wat_create.proofs.making.find_none.Goals as goal

pub returns-in_err-find_empty-2-clause-stops : goal.returns-in_err-find_empty-2-clause-stops
returns-in_err-find_empty-2-clause-stops g c = both_same _ _ _ c.find_empty.ensures.stops c.find_empty-2.ensures.stops

pub returns-in_err-find_empty-3-clause-stops : goal.returns-in_err-find_empty-3-clause-stops
returns-in_err-find_empty-3-clause-stops g c = both_same _ _ _ (both_same _ _ _ c.find_empty.ensures.stops c.find_empty-2.ensures.stops) c.find_empty-3.ensures.stops

pub returns-clause-stops : goal.returns-clause-stops
returns-clause-stops g c = both_same _ _ _ (both_same _ _ _ c.find_empty.ensures.stops c.find_empty-2.ensures.stops) c.find_empty-3.ensures.stops
