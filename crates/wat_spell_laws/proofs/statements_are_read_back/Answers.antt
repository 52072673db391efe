use Rattle.wat_syntax.specs.Sql.{max_nesting}
use Rattle.wat_spell_laws.proofs.Respelled.{reads_back}
use Rattle.wat_spell_laws.proofs.Whole.{parsed_back}
use Rattle.wat_spell_laws.proofs.statements_are_read_back.Goals as goal

pub returns-clause-statement : goal.returns-clause-statement
returns-clause-statement c = λ text ts x h. reads_back max_nesting text ts x h

pub returns-clause-levels : goal.returns-clause-levels
returns-clause-levels c = λ levels text ts x h. reads_back levels text ts x h

pub returns-clause-parsed : goal.returns-clause-parsed
returns-clause-parsed c = λ text from to x h. parsed_back text from to x h
