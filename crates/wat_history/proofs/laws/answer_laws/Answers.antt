use Rattle.std.proofs.Common.{subst}
use Rattle.wat_conn.specs.declared.answer.Answer.{Answer}
use Rattle.wat_history.specs.Fits.{MayAct}
use Rattle.wat_history.proofs.laws.answer_laws.Goals as goal

pub returns-clause-refused : goal.returns-clause-refused
returns-clause-refused c k p refusal answered e = subst (λ (a : Answer). MayAct k p.read a p.entry.acts) e answered.acts

pub returns-clause-locked : goal.returns-clause-locked
returns-clause-locked c k p against answered e = subst (λ (a : Answer). MayAct k p.read a p.entry.acts) e answered.acts

pub returns-clause-deadlock : goal.returns-clause-deadlock
returns-clause-deadlock c k p cycle answered e = subst (λ (a : Answer). MayAct k p.read a p.entry.acts) e answered.acts
