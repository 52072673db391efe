use Rattle.std.proofs.Common.{◌≡◌, ◌++◌, map, drop}
use Rattle.std.specs.List.{list_any}
use Rattle.wat_group.specs.Query.{fails_before_groups, group_values}
use Rattle.wat_walk.specs.Lent.{lent}
use Rattle.wat_group.specs.Private.{keyed_as, under}
use Rattle.wat_group.proofs.grouping.under_group_keys.Given as goal

abbrev pub invariant-loop-row : goal.invariant-loop-row
invariant-loop-row l = record {
  no_error : list_any (fails_before_groups l.query) (lent (drop l.row-index l.rows)) ≡ list_any (fails_before_groups l.query) (lent l.rows);
  keyed : keyed_as l.keyed.items ++ map (under (group_values l.query)) (lent (drop l.row-index l.rows)) ≡ map (under (group_values l.query)) (lent l.rows);
}
