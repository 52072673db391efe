use Rattle.wat_directory.proofs.Counting.{counted}
use Rattle.wat_directory.proofs.directory.Directory.pages_law.Goals as goal

pub returns : goal.returns
returns c rows table key size small none = counted c.args.self.now rows table key size c.len-count.ensures.ordered small none
