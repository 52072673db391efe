-- The comparisons among the parts of a condition that are joined by AND.
use Rattle.std.specs.Prelude.{false, List, [], ◌∷◌, ◌++◌, Option, if◌then◌else◌}
use Rattle.std.specs.Option.{option_map_or}
use Rattle.wat_ast.specs.declared.expression.BinaryOp.{BinaryOp}
use Rattle.wat_ast.specs.declared.expression.BinaryOp.TheVariants.{And, AtMost, AtLeast}
use Rattle.wat_ast.specs.declared.expression.Expr.{Expr}
use Rattle.wat_ast.specs.declared.expression.Expr.TheOpen.{Expr-F}
use Rattle.wat_ast.specs.declared.expression.Expr.TheFolds.{para-Expr}
use Rattle.wat_interval.specs.Tests.{is_bounding}

-- a comparison of two expressions
pub record Comparison : Type 0 where
  pub op : BinaryOp
  pub left : Expr
  pub right : Expr

-- the comparison, where its operator may bound a column
abbrev pub compared : BinaryOp → Expr → Expr → List Comparison
compared op left right = if is_bounding op then record { op = op; left = left; right = right } ∷ [] else []

-- `a BETWEEN low AND high` is two of them
abbrev pub ranged : Expr → Expr → Expr → List Comparison
ranged a low high = record { op = AtLeast; left = a; right = low } ∷ record { op = AtMost; left = a; right = high } ∷ []

-- what one level says: both sides of AND, a comparison, and BETWEEN
abbrev pub conjuncts_step : Expr-F (Expr × List Comparison) → List Comparison
conjuncts_step (Expr-F.Binary And a b) = a.1 ++ b.1
conjuncts_step (Expr-F.Binary op a b) = compared op a.0 b.0
conjuncts_step (Expr-F.Between a low high false) = ranged a.0 low.0 high.0
conjuncts_step e = []

-- the comparisons of a condition, in text order
unfoldable pub conjuncts_in : Expr → List Comparison
conjuncts_in = para-Expr (List Comparison) conjuncts_step

-- those of WHERE, and none where it is absent
abbrev pub conjuncts_of : Option Expr → List Comparison
conjuncts_of filter = option_map_or conjuncts_in filter []
