use Rattle.wat_syntax.specs.Sql.{max_nesting}
use Rattle.wat_syntax.proofs.Members.{statement_pass}
use Rattle.wat_syntax.proofs.law.parsed_lists_have_members.Goals as goal

pub returns : goal.returns
returns c = statement_pass max_nesting
