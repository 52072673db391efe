use Rattle.std.proofs.Common.{◌≡◌, map, take}
use Rattle.wat_value.specs.declared.change.Act.TheVariants.{OnRow}
use Rattle.wat_connection.proofs.transaction.acts_of.Given as goal

abbrev pub invariant-loop-change : goal.invariant-loop-change
invariant-loop-change l = l.acts ≡ map OnRow (take l.change-index l.changes)
