use Rattle.wat_files.proofs.Replaying.{one_start}
use Rattle.wat_files.proofs.laws.start_law.Goals as goal

pub returns : goal.returns
returns c = one_start
