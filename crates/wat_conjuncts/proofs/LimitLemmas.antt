-- Whether an expression is a column, by its kind; and lists of which something is made of some items.
use Rattle.std.proofs.Common.{◌≡◌, ℕ, ◌+◌, ◌<◌, ◌==◌, Bool, false, ◌&&◌, List, [], ◌∷◌, ◌++◌, length, take, get_or, Option, Some, None, sym, ap, ◌∙◌, append-nil}
use Rattle.std.specs.List.{filter_map, cons_option}
use Rattle.std.proofs.lemmas.List.{take_more}
use Rattle.wat_value.specs.declared.value.Value.{Value}
use Rattle.wat_ast.specs.declared.expression.UnaryOp.{UnaryOp}
use Rattle.wat_ast.specs.declared.expression.BinaryOp.{BinaryOp}
use Rattle.wat_ast.specs.declared.expression.AggregateKind.{AggregateKind}
use Rattle.wat_ast.specs.declared.expression.Expr.{Expr}
use Rattle.wat_ast.specs.declared.expression.Expr.TheVariants as e
use Rattle.wat_walk.proofs.FoldLemmas.{fold-Literal, fold-Named, fold-Placed, fold-Unary, fold-Binary, fold-IsNull, fold-Between, fold-InList, fold-Count, fold-Aggregate}
use Rattle.wat_expr.proofs.AggregateLemmas.{filter_map_push}
use Rattle.wat_conjuncts.specs.Limits.{is_column, is_column_step}

module _ (source column : ℕ) where
  pub column-Literal : (v : Value) → is_column source column (e.Literal v) ≡ false
  unfolding is_column
  column-Literal v = fold-Literal (is_column_step source column) v

  pub column-Named : (table : Option (List ℕ)) (name : List ℕ) → is_column source column (e.Named table name) ≡ false
  unfolding is_column
  column-Named table name = fold-Named (is_column_step source column) table name

  pub column-Placed : (s c : ℕ) → is_column source column (e.Placed s c) ≡ ((s == source) && (c == column))
  unfolding is_column
  column-Placed s c = fold-Placed (is_column_step source column) s c

  pub column-Unary : (op : UnaryOp) (a : Expr) → is_column source column (e.Unary op a) ≡ false
  unfolding is_column
  column-Unary op a = fold-Unary (is_column_step source column) op a

  pub column-Binary : (op : BinaryOp) (a b : Expr) → is_column source column (e.Binary op a b) ≡ false
  unfolding is_column
  column-Binary op a b = fold-Binary (is_column_step source column) op a b

  pub column-IsNull : (a : Expr) (negated : Bool) → is_column source column (e.IsNull a negated) ≡ false
  unfolding is_column
  column-IsNull a negated = fold-IsNull (is_column_step source column) a negated

  pub column-Between : (a low high : Expr) (negated : Bool) → is_column source column (e.Between a low high negated) ≡ false
  unfolding is_column
  column-Between a low high negated = fold-Between (is_column_step source column) a low high negated

  pub column-InList : (a : Expr) (items : List Expr) (negated : Bool) → is_column source column (e.InList a items negated) ≡ false
  unfolding is_column
  column-InList a items negated = fold-InList (is_column_step source column) a items negated

  pub column-Aggregate : (kind : AggregateKind) (arg : Option Expr) → is_column source column (e.Aggregate kind arg) ≡ false
  unfolding is_column
  column-Aggregate kind None = fold-Count (is_column_step source column) kind
  column-Aggregate kind (Some a) = fold-Aggregate (is_column_step source column) kind a

pub ruleset columns = (column-Literal, column-Named, column-Placed, column-Unary, column-Binary, column-IsNull, column-Between, column-InList, column-Aggregate)

-- ---- some items

-- one item more, of which `made` is made
pub some_next : {X Y : Type 0} (h : X → Option Y) (xs : List X) (i : ℕ) (x : X) (made : Option Y) (ys : List Y) → i < length xs → x ≡ get_or xs i x → made ≡ h x → ys ≡ filter_map h (take i xs)
    → ys ++ cons_option made [] ≡ filter_map h (take (i + 1) xs)
some_next h xs i x made ys within is by before =
    ap (λ z. z ++ cons_option made []) before
    ∙ (ap (λ o. filter_map h (take i xs) ++ cons_option o []) by
    ∙ (sym (filter_map_push h (take i xs) x) ∙ ap (filter_map h) (ap (λ z. take i xs ++ z ∷ []) is ∙ sym (take_more xs i x within))))

-- one item more, of which nothing is made
pub none_next : {X Y : Type 0} (h : X → Option Y) (xs : List X) (i : ℕ) (x : X) (ys : List Y) → i < length xs → x ≡ get_or xs i x → h x ≡ None → ys ≡ filter_map h (take i xs)
    → ys ≡ filter_map h (take (i + 1) xs)
none_next h xs i x ys within is by before = sym (append-nil ys) ∙ some_next h xs i x None ys within is (sym by) before
