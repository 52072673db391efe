use Rattle.std.proofs.Common.{rules}
use Rattle.wat_word.specs.Words.{reserved, spelling}
use Rattle.wat_word.proofs.keyword.Keyword.spelling.Goals as goal

pub returns : goal.returns
unfolding spelling reserved
returns c = search rules
