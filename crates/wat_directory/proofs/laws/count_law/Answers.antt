use Rattle.wat_directory.proofs.Counting.{counted}
use Rattle.wat_directory.proofs.laws.count_law.Goals as goal

pub returns : goal.returns
returns c = counted
