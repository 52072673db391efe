-- What comparisons say of one column of a source.
use Rattle.std.specs.Prelude.{ℕ, ◌==◌, Bool, false, ◌&&◌, List, Option, Some, None, if◌then◌else◌}
use Rattle.std.specs.List.{filter_map, list_any, list_all}
use Rattle.wat_ast.specs.declared.expression.BinaryOp.{BinaryOp}
use Rattle.wat_ast.specs.declared.expression.BinaryOp.TheVariants.{Less, AtMost, Greater, AtLeast}
use Rattle.wat_ast.specs.declared.expression.Expr.{Expr}
use Rattle.wat_ast.specs.declared.expression.Expr.TheOpen.{Expr-F}
use Rattle.wat_ast.specs.declared.expression.Expr.TheFolds.{fold-Expr}
use Rattle.wat_walk.specs.Parts.{sources_in}
use Rattle.wat_conjuncts.specs.Conjuncts.{Comparison}

-- what is to hold between a column, which stands on the left, and the value of an expression
pub record Limit : Type 0 where
  pub op : BinaryOp
  pub value : Expr

-- the operator with its sides exchanged
abbrev pub turned : BinaryOp → BinaryOp
turned Less = Greater
turned Greater = Less
turned AtMost = AtLeast
turned AtLeast = AtMost
turned op = op

-- the expression is the column with this number of the source with this number
abbrev pub is_column_step : ℕ → ℕ → Expr-F Bool → Bool
is_column_step source column (Expr-F.Placed s c) = (s == source) && (c == column)
is_column_step source column e = false

unfoldable pub is_column : ℕ → ℕ → Expr → Bool
is_column source column = fold-Expr Bool (is_column_step source column)

abbrev pub is_among : List ℕ → ℕ → Bool
is_among sources source = list_any (λ s. s == source) sources

-- the expression reads columns of these sources alone
abbrev pub reads_only : List ℕ → Expr → Bool
reads_only sources e = list_all (is_among sources) (sources_in e)

-- what a comparison says of a column by sources that come earlier; the column may stand on either side
abbrev pub limit_on : List ℕ → ℕ → ℕ → Comparison → Option Limit
limit_on earlier source column x =
    if is_column source column x.left && reads_only earlier x.right then Some (record { op = x.op; value = x.right })
    else if is_column source column x.right && reads_only earlier x.left then Some (record { op = turned x.op; value = x.left })
    else None

abbrev pub limits_on : List Comparison → List ℕ → ℕ → ℕ → List Limit
limits_on conjuncts earlier source column = filter_map (limit_on earlier source column) conjuncts
