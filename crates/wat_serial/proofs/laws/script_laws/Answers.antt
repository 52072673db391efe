use Rattle.wat_schema.specs.Tables.{no_tables}
use Rattle.wat_syntax.specs.Lexeme.{lexemes_of}
use Rattle.wat_serial.proofs.laws.script_laws.Goals as goal

pub returns-clause-members : goal.returns-clause-members
returns-clause-members c text ts end s h = c.parsed_lists_have_members.ensures (lexemes_of text ts) s ((c.parsing_is_exact.ensures.tree text ts end s).0 h)

pub returns-clause-acts : goal.returns-clause-acts
returns-clause-acts c text ts end s acts t h came = c.acts_laws.ensures.apply t s (c.tables_law.ensures.all_kept acts no_tables t c.tables_law.ensures.empty came)
