use Rattle.wat_index.proofs.Cuts.{before_bound, within_bound, not_behind, behind}
use Rattle.wat_index.proofs.laws.cut_law.Goals as goal

pub returns-clause-above : goal.returns-clause-above
returns-clause-above c bound key later less off = before_bound bound key later less off

pub returns-clause-below : goal.returns-clause-below
returns-clause-below c bound key later less on = within_bound bound key later less on

pub returns-clause-not_behind : goal.returns-clause-not_behind
returns-clause-not_behind c key other upto = not_behind key other upto

pub returns-clause-behind : goal.returns-clause-behind
returns-clause-behind c key other same = behind key other same
