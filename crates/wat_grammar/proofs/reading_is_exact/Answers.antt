use Rattle.wat_grammar.proofs.Exact.{derived, found, unambiguous, fails}
use Rattle.wat_grammar.proofs.reading_is_exact.Goals as goal

pub returns-clause-tree : goal.returns-clause-tree
returns-clause-tree g c = let m = g.G.Predictive in λ levels ts tree.
    (derived m.grammar m.example m.predictive levels m.phrase m.phrase_predictive m.phrase_alive ts tree, found m.grammar m.example m.predictive levels m.phrase m.phrase_predictive m.phrase_alive ts tree)

pub returns-clause-only : goal.returns-clause-only
returns-clause-only g c = let m = g.G.Predictive in λ levels. unambiguous m.grammar m.example m.predictive levels m.phrase m.phrase_predictive m.phrase_alive

pub returns-clause-fault : goal.returns-clause-fault
returns-clause-fault g c = let m = g.G.Predictive in λ levels. fails m.grammar m.example m.predictive levels m.phrase m.phrase_predictive m.phrase_alive
