-- The outcome of an expression.
use Rattle.std.specs.Prelude.{ℕ, List, [], map, slice_index_or, Option, Some, None, unwrap_or}
use Rattle.wat_value.specs.declared.value.Value.{Value}
use Rattle.wat_value.specs.Fits.{value_in}
use Rattle.wat_ast.specs.declared.expression.AggregateKind.{AggregateKind}
use Rattle.wat_ast.specs.declared.expression.Expr.{Expr}
use Rattle.wat_ast.specs.declared.expression.Expr.TheOpen.{Expr-F}
use Rattle.wat_ast.specs.declared.expression.Expr.TheFolds.{fold-Expr}
use Rattle.wat_expr.specs.declared.outcome.Outcome.{Outcome}
use Rattle.wat_expr.specs.declared.outcome.Outcome.TheVariants.{Is, Error}
use Rattle.wat_expr.specs.Logic.{negated_if, null_test}
use Rattle.wat_expr.specs.Operators.{unary, binary, between, among}
use Rattle.wat_expr.specs.Aggregates.{count, aggregate}

-- for each source a row, or nothing
abbrev pub Combination : Type 0
Combination = List (Option (List Value))

-- what an expression is taken over: a combination, and the group of combinations that its aggregates are taken over
pub record Over : Type 0 where
  pub rows : Combination
  pub group : Option (List Combination)

-- a combination alone
abbrev pub over : Combination → Over
over rows = record { rows = rows; group = None }

-- a combination of a group, and the group
abbrev pub over_group : Combination → List Combination → Over
over_group rows group = record { rows = rows; group = Some group }

-- the value of a column, and Null where there is none
abbrev pub value_at : Combination → ℕ → ℕ → Value
value_at rows source column = value_in (unwrap_or (slice_index_or rows source None) []) column

-- an aggregate over a group, and Error without one; COUNT(*) has no argument
abbrev pub aggregate_over : AggregateKind → Option (Over → Outcome) → Option (List Combination) → Outcome
aggregate_over kind arg None = Error
aggregate_over kind None (Some group) = count group
aggregate_over kind (Some arg) (Some group) = aggregate kind (map (λ rows. arg (over rows)) group)

-- one level of an expression, with the outcome of each part in its place; a column that was not found is Error
abbrev pub outcome_step : Expr-F (Over → Outcome) → Over → Outcome
outcome_step (Expr-F.Literal value) at = Is value
outcome_step (Expr-F.Named table name) at = Error
outcome_step (Expr-F.Placed source column) at = Is (value_at at.rows source column)
outcome_step (Expr-F.Unary op a) at = unary op (a at)
outcome_step (Expr-F.Binary op a b) at = binary op (a at) (b at)
outcome_step (Expr-F.IsNull a negated) at = negated_if negated (null_test (a at))
outcome_step (Expr-F.Between a low high negated) at = negated_if negated (between (a at) (low at) (high at))
outcome_step (Expr-F.InList a items negated) at = negated_if negated (among (a at) (map (λ x. x at) items))
outcome_step (Expr-F.Aggregate kind arg) at = aggregate_over kind arg at.group

-- the outcome of an expression
unfoldable pub outcome_of : Expr → Over → Outcome
outcome_of = fold-Expr (Over → Outcome) outcome_step
