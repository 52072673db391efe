use Rattle.wat_spelled.proofs.Spelling.{schema_once, lists_once, told_once}
use Rattle.wat_spelled.proofs.laws.spelled_laws.Goals as goal

pub returns : goal.returns
returns c = record { schema = schema_once; lists = lists_once; told = told_once }
