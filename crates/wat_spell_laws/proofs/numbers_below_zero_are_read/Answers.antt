use Rattle.wat_spell_laws.proofs.BelowZero.{alike_derives, given_parsed, readable_parsed}
use Rattle.wat_spell_laws.proofs.Readable.{as_read_derives}
use Rattle.wat_spell_laws.proofs.numbers_below_zero_are_read.Goals as goal

pub returns-clause-expression : goal.returns-clause-expression
returns-clause-expression c = as_read_derives

pub returns-clause-readable : goal.returns-clause-readable
returns-clause-readable c = readable_parsed

pub returns-clause-given : goal.returns-clause-given
returns-clause-given c = given_parsed

pub returns-clause-levels : goal.returns-clause-levels
returns-clause-levels c = alike_derives
