use Rattle.wat_slot.proofs.Reading.{one_list}
use Rattle.wat_slot.proofs.laws.cells_law.Goals as goal

pub returns : goal.returns
returns c = one_list
