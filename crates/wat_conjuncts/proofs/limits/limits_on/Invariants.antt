use Rattle.std.proofs.Common.{◌≡◌, take}
use Rattle.wat_conjuncts.specs.Limits.{limits_on}
use Rattle.wat_conjuncts.proofs.limits.limits_on.Given as goal

abbrev pub invariant-loop-conjunct : goal.invariant-loop-conjunct
invariant-loop-conjunct l = l.limits.items ≡ limits_on (take l.conjunct-index l.conjuncts) l.earlier l.source l.column
