use Rattle.wat_history.proofs.HistoryLemmas.{one_history, all_numbers}
use Rattle.wat_history.proofs.laws.history_laws.Goals as goal

pub returns-clause-one : goal.returns-clause-one
returns-clause-one c = one_history

pub returns-clause-numbers : goal.returns-clause-numbers
returns-clause-numbers c = all_numbers
