use Rattle.std.proofs.Common.{◌≡◌, ◌≤◌, ◌-◌, ◌++◌, map, length, drop}
use Rattle.sqlite_trees.specs.Tree.{IsAscending}
use Rattle.wat_group.specs.Query.{over_all}
use Rattle.wat_group.specs.Private.{over_of, rows_in, IsAtMost, classes}
use Rattle.wat_group.proofs.grouping.cut.Given as goal

abbrev pub invariant-loop-start : goal.invariant-loop-start
invariant-loop-start l = record {
  within : l.start ≤ length l.sorted;
  ascending : IsAscending IsAtMost (drop l.start l.sorted);
  groups : map over_of l.groups.items ++ map over_all (map rows_in (classes (drop l.start l.sorted))) ≡ map over_all (map rows_in (classes l.sorted));
}

abbrev pub decreases-loop-start : goal.decreases-loop-start
decreases-loop-start l = length l.sorted - l.start
