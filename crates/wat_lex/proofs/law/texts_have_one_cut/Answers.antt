use Rattle.wat_lex.proofs.Cuts.{tokens_of-cut}
use Rattle.wat_lex.proofs.OneCut.{one_cut}
use Rattle.wat_lex.proofs.law.texts_have_one_cut.Goals as goal

pub returns-clause-one : goal.returns-clause-one
returns-clause-one c = one_cut

pub returns-clause-tokens : goal.returns-clause-tokens
returns-clause-tokens c = tokens_of-cut
