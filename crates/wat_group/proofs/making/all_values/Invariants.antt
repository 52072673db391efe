use Rattle.std.proofs.Common.{◌≡◌, ◌++◌, map, drop}
use Rattle.wat_expr.specs.declared.outcome.Outcome.TheVariants.{Is}
use Rattle.wat_group.specs.Query.{all_values}
use Rattle.wat_group.proofs.making.all_values.Given as goal

abbrev pub invariant-loop-row : goal.invariant-loop-row
invariant-loop-row l = l.values.items ++ map Is (all_values (drop l.row-index l.row-items)) ≡ map Is (all_values l.row-items)
