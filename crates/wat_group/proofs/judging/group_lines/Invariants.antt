use Rattle.std.proofs.Common.{◌≡◌, ◌++◌, map, drop}
use Rattle.std.specs.List.{filter, list_any}
use Rattle.wat_group.specs.Query.{fails_group, is_kept, line_at}
use Rattle.wat_group.specs.Private.{over_of}
use Rattle.wat_group.proofs.judging.group_lines.Given as goal

abbrev pub invariant-loop-group : goal.invariant-loop-group
invariant-loop-group l = record {
  no_error : list_any (fails_group l.query) (map over_of (drop l.group-index l.groups)) ≡ list_any (fails_group l.query) (map over_of l.groups);
  lines : l.lines.items ++ map (line_at l.query) (filter (is_kept l.query) (map over_of (drop l.group-index l.groups))) ≡ map (line_at l.query) (filter (is_kept l.query) (map over_of l.groups));
}
