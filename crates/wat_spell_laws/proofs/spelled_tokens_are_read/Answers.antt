use Rattle.wat_spell_laws.proofs.Tokens.{read_back}
use Rattle.wat_spell_laws.proofs.spelled_tokens_are_read.Goals as goal

pub returns : goal.returns
returns c = λ ts. read_back ts
