use Rattle.wat_held.proofs.Linked.{reads_there, breaks_there}
use Rattle.wat_held.proofs.laws.linked_law.Goals as goal

pub returns : goal.returns
returns c = record { reads = reads_there; breaks = breaks_there }
