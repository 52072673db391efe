use Rattle.wat_book.proofs.Working.{chain_once}
use Rattle.wat_book.proofs.laws.chain_law.Goals as goal

pub returns : goal.returns
returns c = chain_once
