use Rattle.std.proofs.Common.{◌≡◌, ◌++◌, map, drop}
use Rattle.wat_expr.specs.declared.outcome.Outcome.TheVariants.{Is}
use Rattle.wat_group.proofs.making.push_all.Given as goal

abbrev pub invariant-loop-value : goal.invariant-loop-value
invariant-loop-value l = l.values.items ++ map Is (drop l.value-index l.value-items) ≡ l.initial.values.items ++ map Is l.value-items
