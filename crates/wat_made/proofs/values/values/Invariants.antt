use Rattle.std.proofs.Common.{◌≡◌, ◌++◌, map, drop}
use Rattle.wat_group.specs.Query.{has_error, outcome_at, values_of}
use Rattle.wat_made.proofs.values.values.Given as goal

abbrev pub invariant-loop-expr : goal.invariant-loop-expr
invariant-loop-expr l = record {
  no_error : has_error (map (outcome_at l.rows) (drop l.expr-index l.exprs)) ≡ has_error (map (outcome_at l.rows) l.exprs);
  row : l.row ++ values_of (map (outcome_at l.rows) (drop l.expr-index l.exprs)) ≡ values_of (map (outcome_at l.rows) l.exprs);
}
