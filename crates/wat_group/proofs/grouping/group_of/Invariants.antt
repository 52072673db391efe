use Rattle.std.proofs.Common.{◌≡◌, ◌++◌, drop}
use Rattle.wat_walk.specs.Lent.{lent}
use Rattle.wat_group.specs.Private.{rows_in}
use Rattle.wat_group.proofs.grouping.group_of.Given as goal

abbrev pub invariant-loop-entry : goal.invariant-loop-entry
invariant-loop-entry l = lent l.members.items ++ rows_in (drop l.entry-index l.run) ≡ rows_in l.run
