use Rattle.wat_schema.proofs.Database.{no_tables_hold, acts_hold, all_acts_hold, in_their_order, names_differ}
use Rattle.wat_schema.proofs.laws.tables_law.Goals as goal

pub returns-clause-empty : goal.returns-clause-empty
returns-clause-empty c = no_tables_hold

pub returns-clause-kept : goal.returns-clause-kept
returns-clause-kept c = acts_hold

pub returns-clause-all_kept : goal.returns-clause-all_kept
returns-clause-all_kept c = all_acts_hold

pub returns-clause-order : goal.returns-clause-order
returns-clause-order c = in_their_order

pub returns-clause-names : goal.returns-clause-names
returns-clause-names c = names_differ
