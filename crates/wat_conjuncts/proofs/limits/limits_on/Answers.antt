use Rattle.std.proofs.Common.{Some, sym, ◌∙◌}
use Rattle.wat_conjuncts.specs.Limits.{limit_on}
use Rattle.wat_conjuncts.proofs.LimitLemmas.{some_next, none_next}
use Rattle.wat_conjuncts.proofs.limits.limits_on.Goals as goal
use Rattle.wat_conjuncts.proofs.limits.limits_on.Goals.{in-Some+in_ok-push, in_default}

pub loop-conjunct-preserved : goal.loop-conjunct-preserved
loop-conjunct-preserved c =
    let h = limit_on c.args.earlier.now c.args.source c.args.column in
    let i = c.loop-conjunct.conjunct-index in
    elim c.match-branch-2.branch [
      | in-Some+in_ok-push w ↦
          rw w.limits-is
          (w.in_ok-push.ensures.items
          ∙ some_next h c.args.conjuncts.now i c.conjunct-item.result (Some w.in-Some.limit) c.loop-conjunct.limits.items c.loop-conjunct-test.true c.conjunct-item.is (sym w.in-Some.is ∙ c.in_ok-limit.ensures) c.loop-conjunct.invariant)
      | in_default w ↦
          rw w.limits-is
          (none_next h c.args.conjuncts.now i c.conjunct-item.result c.loop-conjunct.limits.items c.loop-conjunct-test.true c.conjunct-item.is (sym c.in_ok-limit.ensures ∙ w.in_default.is) c.loop-conjunct.invariant)
    ]
