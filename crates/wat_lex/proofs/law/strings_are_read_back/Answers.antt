use Rattle.wat_lex.proofs.Values.{read_back}
use Rattle.wat_lex.proofs.law.strings_are_read_back.Goals as goal

pub returns : goal.returns
returns c = read_back
