-- A fold over an expression, at each kind of expression.
use Rattle.std.proofs.Common.{◌≡◌, ℕ, Bool, List, map, Option, Some, None, ap, sym, ◌∙◌}
use Rattle.wat_value.specs.declared.value.Value.{Value}
use Rattle.wat_ast.specs.declared.expression.UnaryOp.{UnaryOp}
use Rattle.wat_ast.specs.declared.expression.BinaryOp.{BinaryOp}
use Rattle.wat_ast.specs.declared.expression.AggregateKind.{AggregateKind}
use Rattle.wat_ast.specs.declared.expression.Expr.{Expr}
use Rattle.wat_ast.specs.declared.expression.Expr.TheVariants as e
use Rattle.wat_ast.specs.declared.expression.Expr.TheVariants.{rolls-Literal, rolls-Named, rolls-Placed, rolls-Unary, rolls-Binary, rolls-IsNull, rolls-Between, rolls-InList, rolls-Aggregate}
use Rattle.wat_ast.specs.declared.expression.Expr.TheOpen.{Expr-F}
use Rattle.wat_ast.specs.declared.expression.Expr.TheFolds.{fold-Expr, fold-roll-Expr, para-Expr, para-roll-Expr}

module _ {A : Type 0} (step : Expr-F A → A) where
  pub fold-Literal : (v : Value) → fold-Expr A step (e.Literal v) ≡ step (Expr-F.Literal v)
  fold-Literal v = ap (fold-Expr A step) (sym (rolls-Literal v)) ∙ fold-roll-Expr A step (Expr-F.Literal v)

  pub fold-Named : (table : Option (List ℕ)) (name : List ℕ) → fold-Expr A step (e.Named table name) ≡ step (Expr-F.Named table name)
  fold-Named table name = ap (fold-Expr A step) (sym (rolls-Named table name)) ∙ fold-roll-Expr A step (Expr-F.Named table name)

  pub fold-Placed : (source column : ℕ) → fold-Expr A step (e.Placed source column) ≡ step (Expr-F.Placed source column)
  fold-Placed source column = ap (fold-Expr A step) (sym (rolls-Placed source column)) ∙ fold-roll-Expr A step (Expr-F.Placed source column)

  pub fold-Unary : (op : UnaryOp) (a : Expr) → fold-Expr A step (e.Unary op a) ≡ step (Expr-F.Unary op (fold-Expr A step a))
  fold-Unary op a = ap (fold-Expr A step) (sym (rolls-Unary op a)) ∙ fold-roll-Expr A step (Expr-F.Unary op a)

  pub fold-Binary : (op : BinaryOp) (a b : Expr) → fold-Expr A step (e.Binary op a b) ≡ step (Expr-F.Binary op (fold-Expr A step a) (fold-Expr A step b))
  fold-Binary op a b = ap (fold-Expr A step) (sym (rolls-Binary op a b)) ∙ fold-roll-Expr A step (Expr-F.Binary op a b)

  pub fold-IsNull : (a : Expr) (negated : Bool) → fold-Expr A step (e.IsNull a negated) ≡ step (Expr-F.IsNull (fold-Expr A step a) negated)
  fold-IsNull a negated = ap (fold-Expr A step) (sym (rolls-IsNull a negated)) ∙ fold-roll-Expr A step (Expr-F.IsNull a negated)

  pub fold-Between : (a low high : Expr) (negated : Bool) → fold-Expr A step (e.Between a low high negated) ≡ step (Expr-F.Between (fold-Expr A step a) (fold-Expr A step low) (fold-Expr A step high) negated)
  fold-Between a low high negated = ap (fold-Expr A step) (sym (rolls-Between a low high negated)) ∙ fold-roll-Expr A step (Expr-F.Between a low high negated)

  pub fold-InList : (a : Expr) (items : List Expr) (negated : Bool) → fold-Expr A step (e.InList a items negated) ≡ step (Expr-F.InList (fold-Expr A step a) (map (fold-Expr A step) items) negated)
  fold-InList a items negated = ap (fold-Expr A step) (sym (rolls-InList a items negated)) ∙ fold-roll-Expr A step (Expr-F.InList a items negated)

  pub fold-Count : (kind : AggregateKind) → fold-Expr A step (e.Aggregate kind None) ≡ step (Expr-F.Aggregate kind None)
  fold-Count kind = ap (fold-Expr A step) (sym (rolls-Aggregate kind None)) ∙ fold-roll-Expr A step (Expr-F.Aggregate kind None)

  pub fold-Aggregate : (kind : AggregateKind) (a : Expr) → fold-Expr A step (e.Aggregate kind (Some a)) ≡ step (Expr-F.Aggregate kind (Some (fold-Expr A step a)))
  fold-Aggregate kind a = ap (fold-Expr A step) (sym (rolls-Aggregate kind (Some a))) ∙ fold-roll-Expr A step (Expr-F.Aggregate kind (Some a))

-- the same where a step also sees each part as it is
module _ {A : Type 0} (step : Expr-F (Expr × A) → A) where
  pub para-Literal : (v : Value) → para-Expr A step (e.Literal v) ≡ step (Expr-F.Literal v)
  para-Literal v = ap (para-Expr A step) (sym (rolls-Literal v)) ∙ para-roll-Expr A step (Expr-F.Literal v)

  pub para-Named : (table : Option (List ℕ)) (name : List ℕ) → para-Expr A step (e.Named table name) ≡ step (Expr-F.Named table name)
  para-Named table name = ap (para-Expr A step) (sym (rolls-Named table name)) ∙ para-roll-Expr A step (Expr-F.Named table name)

  pub para-Placed : (source column : ℕ) → para-Expr A step (e.Placed source column) ≡ step (Expr-F.Placed source column)
  para-Placed source column = ap (para-Expr A step) (sym (rolls-Placed source column)) ∙ para-roll-Expr A step (Expr-F.Placed source column)

  pub para-Unary : (op : UnaryOp) (a : Expr) → para-Expr A step (e.Unary op a) ≡ step (Expr-F.Unary op (a, para-Expr A step a))
  para-Unary op a = ap (para-Expr A step) (sym (rolls-Unary op a)) ∙ para-roll-Expr A step (Expr-F.Unary op a)

  pub para-Binary : (op : BinaryOp) (a b : Expr) → para-Expr A step (e.Binary op a b) ≡ step (Expr-F.Binary op (a, para-Expr A step a) (b, para-Expr A step b))
  para-Binary op a b = ap (para-Expr A step) (sym (rolls-Binary op a b)) ∙ para-roll-Expr A step (Expr-F.Binary op a b)

  pub para-IsNull : (a : Expr) (negated : Bool) → para-Expr A step (e.IsNull a negated) ≡ step (Expr-F.IsNull (a, para-Expr A step a) negated)
  para-IsNull a negated = ap (para-Expr A step) (sym (rolls-IsNull a negated)) ∙ para-roll-Expr A step (Expr-F.IsNull a negated)

  pub para-Between : (a low high : Expr) (negated : Bool) → para-Expr A step (e.Between a low high negated) ≡ step (Expr-F.Between (a, para-Expr A step a) (low, para-Expr A step low) (high, para-Expr A step high) negated)
  para-Between a low high negated = ap (para-Expr A step) (sym (rolls-Between a low high negated)) ∙ para-roll-Expr A step (Expr-F.Between a low high negated)

  pub para-InList : (a : Expr) (items : List Expr) (negated : Bool) → para-Expr A step (e.InList a items negated) ≡ step (Expr-F.InList (a, para-Expr A step a) (map (λ x. (x, para-Expr A step x)) items) negated)
  para-InList a items negated = ap (para-Expr A step) (sym (rolls-InList a items negated)) ∙ para-roll-Expr A step (Expr-F.InList a items negated)

  pub para-Count : (kind : AggregateKind) → para-Expr A step (e.Aggregate kind None) ≡ step (Expr-F.Aggregate kind None)
  para-Count kind = ap (para-Expr A step) (sym (rolls-Aggregate kind None)) ∙ para-roll-Expr A step (Expr-F.Aggregate kind None)

  pub para-Aggregate : (kind : AggregateKind) (a : Expr) → para-Expr A step (e.Aggregate kind (Some a)) ≡ step (Expr-F.Aggregate kind (Some (a, para-Expr A step a)))
  para-Aggregate kind a = ap (para-Expr A step) (sym (rolls-Aggregate kind (Some a))) ∙ para-roll-Expr A step (Expr-F.Aggregate kind (Some a))

pub ruleset folds = (fold-Literal, fold-Named, fold-Placed, fold-Unary, fold-Binary, fold-IsNull, fold-Between, fold-InList, fold-Count, fold-Aggregate, para-Literal, para-Named, para-Placed, para-Unary, para-Binary, para-IsNull, para-Between, para-InList, para-Count, para-Aggregate, rolls-Literal, rolls-Named, rolls-Placed, rolls-Unary, rolls-Binary, rolls-IsNull, rolls-Between, rolls-InList, rolls-Aggregate)
