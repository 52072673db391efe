use Rattle.wat_syntax.proofs.Values.{have_values}
use Rattle.wat_syntax.proofs.law.tokens_have_values.Goals as goal

pub returns : goal.returns
returns c = have_values
