use Rattle.wat_driven.proofs.EndingLemmas.{changes_fewer, visits_fewer, visits_first}
use Rattle.wat_driven.proofs.laws.ends_law.Goals as goal

pub returns-clause-first : goal.returns-clause-first
returns-clause-first c = λ keys k level s. visits_first keys k level s

pub returns-clause-visit : goal.returns-clause-visit
returns-clause-visit c = λ keys k rows vacant are run scan ts met seen n is. visits_fewer keys k rows vacant are run scan ts met seen n is

pub returns-clause-change : goal.returns-clause-change
returns-clause-change c = λ run change n. changes_fewer run change n
