use Rattle.std.proofs.Common.{sym}
use Rattle.wat_value.specs.declared.value.Value.TheVariants.{Null}
use Rattle.wat_visits.proofs.Past.{past_default}
use Rattle.wat_indexes.proofs.kept_index.value_in.Goals as goal

pub returns-in-None : goal.returns-in-None
returns-in-None c = sym (past_default c.args.row.now c.args.column Null (sym c.in-None.ensures.value))
