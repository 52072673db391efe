use Rattle.wat_history.proofs.Examples.{connection_cases, answer_cases, history_cases, serial_cases, plain_cases, cut_cases}
use Rattle.wat_history.proofs.laws.worked_cases.Goals as goal

pub returns-clause-connections : goal.returns-clause-connections
returns-clause-connections c = connection_cases

pub returns-clause-answers : goal.returns-clause-answers
returns-clause-answers c = answer_cases

pub returns-clause-histories : goal.returns-clause-histories
returns-clause-histories c = history_cases

pub returns-clause-serial : goal.returns-clause-serial
returns-clause-serial c = serial_cases

pub returns-clause-plain : goal.returns-clause-plain
returns-clause-plain c = plain_cases

pub returns-clause-cuts : goal.returns-clause-cuts
returns-clause-cuts c = cut_cases
