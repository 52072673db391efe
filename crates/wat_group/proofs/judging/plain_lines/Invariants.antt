use Rattle.std.proofs.Common.{◌≡◌, ◌++◌, map, drop}
use Rattle.std.specs.List.{list_any}
use Rattle.wat_expr.specs.Evaluation.{over}
use Rattle.wat_group.specs.Query.{fails_at, line_at}
use Rattle.wat_walk.specs.Lent.{lent}
use Rattle.wat_group.proofs.judging.plain_lines.Given as goal

abbrev pub invariant-loop-row : goal.invariant-loop-row
invariant-loop-row l = record {
  no_error : list_any (λ r. fails_at l.query (over r)) (lent (drop l.row-index l.rows)) ≡ list_any (λ r. fails_at l.query (over r)) (lent l.rows);
  lines : l.lines.items ++ map (λ r. line_at l.query (over r)) (lent (drop l.row-index l.rows)) ≡ map (λ r. line_at l.query (over r)) (lent l.rows);
}
