use Rattle.wat_indexed.proofs.SourceLemmas.{made}
use Rattle.wat_indexed.proofs.laws.change_law.Goals as goal

pub returns : goal.returns
returns c = λ x s change h fits before. made x s change h fits before
