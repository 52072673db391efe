use Rattle.std.proofs.Common.{◌≡◌, ◌-◌, take}
use Rattle.wat_plan.proofs.SourceLemmas.{indexes_at}
use Rattle.wat_plan.proofs.source_table.indexes_of.Given as goal

abbrev pub invariant-loop-number : goal.invariant-loop-number
invariant-loop-number l = l.indexes ≡ take (l.number - 1) (indexes_at l.schema l.table)
