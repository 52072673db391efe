use Rattle.std.proofs.Common.{◌≡◌, ◌++◌}
use Rattle.wat_conjuncts.specs.Conjuncts.{conjuncts_in}
use Rattle.wat_conjuncts.proofs.ConjunctLemmas.{waiting, left_over}
use Rattle.wat_conjuncts.proofs.conjuncts.conjuncts_in.Given as goal

abbrev pub invariant-loop-expr : goal.invariant-loop-expr
invariant-loop-expr l = l.conjuncts.items ++ waiting l.rest.items ≡ conjuncts_in l.fn.condition

abbrev pub decreases-loop-expr : goal.decreases-loop-expr
decreases-loop-expr l = left_over l.rest.items
