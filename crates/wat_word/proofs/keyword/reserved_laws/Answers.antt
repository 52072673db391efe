use Rattle.wat_word.proofs.Reserved.{spelled_words, read_back}
use Rattle.wat_word.proofs.keyword.reserved_laws.Goals as goal

pub returns-clause-words : goal.returns-clause-words
returns-clause-words c = spelled_words

pub returns-clause-read : goal.returns-clause-read
returns-clause-read c = read_back
