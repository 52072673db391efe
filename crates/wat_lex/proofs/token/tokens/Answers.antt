use Rattle.wat_lex.proofs.Cuts.{cut_of}
use Rattle.wat_lex.proofs.Slices.{slices_of}
use Rattle.wat_lex.proofs.token.tokens.Goals as goal

pub returns-clause-cut : goal.returns-clause-cut
returns-clause-cut c = cut_of _ _ (rw c.as_bytes.ensures.value at c.read_tokens.ensures)

pub returns-clause-slices : goal.returns-clause-slices
returns-clause-slices c = slices_of _ _ c.utf8.text (cut_of _ _ (rw c.as_bytes.ensures.value at c.read_tokens.ensures))
