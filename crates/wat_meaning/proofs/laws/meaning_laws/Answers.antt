use Rattle.wat_meaning.proofs.Replies.{refused_is_inert, select_is_inert, acts_counted, check_is_first, check_lets_through}
use Rattle.wat_meaning.proofs.laws.meaning_laws.Goals as goal

pub returns-clause-checks : goal.returns-clause-checks
returns-clause-checks c = check_is_first

pub returns-clause-checked : goal.returns-clause-checked
returns-clause-checked c = check_lets_through

pub returns-clause-refused : goal.returns-clause-refused
returns-clause-refused c = refused_is_inert

pub returns-clause-select : goal.returns-clause-select
returns-clause-select c = select_is_inert

pub returns-clause-counted : goal.returns-clause-counted
returns-clause-counted c = acts_counted
