-- What is known of an expression, by the kind of the expression.
use Rattle.std.proofs.Common.{◌≡◌, ℕ, Bool, List, map, Option, Some, None}
use Rattle.wat_value.specs.declared.value.Value.{Value}
use Rattle.wat_ast.specs.declared.expression.UnaryOp.{UnaryOp}
use Rattle.wat_ast.specs.declared.expression.BinaryOp.{BinaryOp}
use Rattle.wat_ast.specs.declared.expression.AggregateKind.{AggregateKind}
use Rattle.wat_ast.specs.declared.expression.Expr.{Expr}
use Rattle.wat_ast.specs.declared.expression.Expr.TheVariants as e
use Rattle.wat_ast.specs.declared.expression.Expr.TheOpen.{Expr-F}
use Rattle.wat_walk.proofs.FoldLemmas.{fold-Literal, fold-Named, fold-Placed, fold-Unary, fold-Binary, fold-IsNull, fold-Between, fold-InList, fold-Count, fold-Aggregate}
use Rattle.wat_types.specs.declared.typing.ExprType.TheVariants.{Integer, Condition, Null}
use Rattle.wat_types.specs.Types.{ColumnTypes, typing_of, typing_step, typing_from, value_type, unary_type, operator_type, aggregate_type}

module _ (columns : ColumnTypes) where
  pub typing-Literal : (v : Value) → typing_of columns (e.Literal v) ≡ typing_from (value_type v) (Expr-F.Literal v)
  unfolding typing_of
  typing-Literal v = fold-Literal (typing_step columns) v

  pub typing-Named : (table : Option (List ℕ)) (name : List ℕ) → typing_of columns (e.Named table name) ≡ typing_from Null (Expr-F.Named table name)
  unfolding typing_of
  typing-Named table name = fold-Named (typing_step columns) table name

  pub typing-Placed : (source column : ℕ) → typing_of columns (e.Placed source column) ≡ typing_from (columns source column) (Expr-F.Placed source column)
  unfolding typing_of
  typing-Placed source column = fold-Placed (typing_step columns) source column

  pub typing-Unary : (op : UnaryOp) (a : Expr) → typing_of columns (e.Unary op a) ≡ typing_from (unary_type op) (Expr-F.Unary op (typing_of columns a))
  unfolding typing_of
  typing-Unary op a = fold-Unary (typing_step columns) op a

  pub typing-Binary : (op : BinaryOp) (a b : Expr) → typing_of columns (e.Binary op a b) ≡ typing_from (operator_type op) (Expr-F.Binary op (typing_of columns a) (typing_of columns b))
  unfolding typing_of
  typing-Binary op a b = fold-Binary (typing_step columns) op a b

  pub typing-IsNull : (a : Expr) (negated : Bool) → typing_of columns (e.IsNull a negated) ≡ typing_from Condition (Expr-F.IsNull (typing_of columns a) negated)
  unfolding typing_of
  typing-IsNull a negated = fold-IsNull (typing_step columns) a negated

  pub typing-Between : (a low high : Expr) (negated : Bool)
      → typing_of columns (e.Between a low high negated) ≡ typing_from Condition (Expr-F.Between (typing_of columns a) (typing_of columns low) (typing_of columns high) negated)
  unfolding typing_of
  typing-Between a low high negated = fold-Between (typing_step columns) a low high negated

  pub typing-InList : (a : Expr) (items : List Expr) (negated : Bool)
      → typing_of columns (e.InList a items negated) ≡ typing_from Condition (Expr-F.InList (typing_of columns a) (map (typing_of columns) items) negated)
  unfolding typing_of
  typing-InList a items negated = fold-InList (typing_step columns) a items negated

  pub typing-Count : (kind : AggregateKind) → typing_of columns (e.Aggregate kind None) ≡ typing_from Integer (Expr-F.Aggregate kind None)
  unfolding typing_of
  typing-Count kind = fold-Count (typing_step columns) kind

  pub typing-Aggregate : (kind : AggregateKind) (a : Expr)
      → typing_of columns (e.Aggregate kind (Some a)) ≡ typing_from (aggregate_type kind (typing_of columns a)) (Expr-F.Aggregate kind (Some (typing_of columns a)))
  unfolding typing_of
  typing-Aggregate kind a = fold-Aggregate (typing_step columns) kind a

pub ruleset typings = (typing-Literal, typing-Named, typing-Placed, typing-Unary, typing-IsNull, typing-Between, typing-InList, typing-Count, typing-Aggregate)
