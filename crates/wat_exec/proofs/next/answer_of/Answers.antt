use Rattle.wat_exec.proofs.next.answer_of.Goals as goal

pub returns-in-Visit-clause-visit : goal.returns-in-Visit-clause-visit
returns-in-Visit-clause-visit g c = λ scan ts met is at small. c.visit_asked.ensures.visit scan ts met at small

pub returns-in-Visit-clause-seen : goal.returns-in-Visit-clause-seen
returns-in-Visit-clause-seen g c = λ s scan ts met depth seen is told each at get. c.visit_asked.ensures.seen s scan ts met depth seen told each at get
