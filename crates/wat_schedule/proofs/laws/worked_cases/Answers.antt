use Rattle.wat_schedule.proofs.Worked.{mark_cases, number_cases, other_cases, two_cases}
use Rattle.wat_schedule.proofs.laws.worked_cases.Goals as goal

pub returns-clause-two : goal.returns-clause-two
returns-clause-two c = two_cases

pub returns-clause-others : goal.returns-clause-others
returns-clause-others c = other_cases

pub returns-clause-numbers : goal.returns-clause-numbers
returns-clause-numbers c = number_cases

pub returns-clause-marks : goal.returns-clause-marks
returns-clause-marks c = mark_cases
