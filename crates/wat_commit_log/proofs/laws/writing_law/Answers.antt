use Rattle.wat_commit_log.proofs.WritingLemmas.{acts_writable}
use Rattle.wat_commit_log.proofs.laws.writing_law.Goals as goal

pub returns : goal.returns
returns c = acts_writable
