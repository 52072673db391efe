-- An expression with its columns in their places, by the kind of the expression.
use Rattle.std.proofs.Common.{◌≡◌, ℕ, Bool, List, map, Option, Some, None, ◌∙◌}
use Rattle.std.specs.List.{fold}
use Rattle.wat_value.specs.declared.value.Value.{Value}
use Rattle.wat_ast.specs.declared.expression.UnaryOp.{UnaryOp}
use Rattle.wat_ast.specs.declared.expression.BinaryOp.{BinaryOp}
use Rattle.wat_ast.specs.declared.expression.AggregateKind.{AggregateKind}
use Rattle.wat_ast.specs.declared.expression.Expr.{Expr}
use Rattle.wat_ast.specs.declared.expression.Expr.TheVariants as e
use Rattle.wat_ast.specs.declared.expression.Expr.TheVariants.{rolls-Literal, rolls-Placed, rolls-Unary, rolls-Binary, rolls-IsNull, rolls-Between, rolls-InList, rolls-Aggregate}
use Rattle.wat_walk.specs.declared.spine.Operation.{Operation}
use Rattle.wat_walk.specs.Chain.{chain}
use Rattle.wat_walk.specs.Parts.{with_places, places_step}
use Rattle.wat_walk.proofs.FoldLemmas.{fold-Literal, fold-Named, fold-Placed, fold-Unary, fold-Binary, fold-IsNull, fold-Between, fold-InList, fold-Count, fold-Aggregate}
use Rattle.wat_schema.specs.Catalog.{Catalog}
use Rattle.wat_scope.specs.Scope.{Scope}
use Rattle.wat_names.specs.Places.{place_of, placed}
use Rattle.wat_scope.proofs.Chains.{chain_begun}

module _ (c : Catalog) (scope : Scope) where
  pub placed-Literal : (v : Value) → placed c scope (e.Literal v) ≡ e.Literal v
  unfolding placed with_places
  placed-Literal v = fold-Literal (places_step (place_of c scope)) v ∙ rolls-Literal v

  pub placed-Named : (table : Option (List ℕ)) (name : List ℕ) → placed c scope (e.Named table name) ≡ place_of c scope (table, name)
  unfolding placed with_places
  placed-Named table name = fold-Named (places_step (place_of c scope)) table name

  pub placed-Placed : (source column : ℕ) → placed c scope (e.Placed source column) ≡ e.Placed source column
  unfolding placed with_places
  placed-Placed source column = fold-Placed (places_step (place_of c scope)) source column ∙ rolls-Placed source column

  pub placed-Unary : (op : UnaryOp) (a : Expr) → placed c scope (e.Unary op a) ≡ e.Unary op (placed c scope a)
  unfolding placed with_places
  placed-Unary op a = fold-Unary (places_step (place_of c scope)) op a ∙ rolls-Unary op (placed c scope a)

  pub placed-Binary : (op : BinaryOp) (a b : Expr) → placed c scope (e.Binary op a b) ≡ e.Binary op (placed c scope a) (placed c scope b)
  unfolding placed with_places
  placed-Binary op a b = fold-Binary (places_step (place_of c scope)) op a b ∙ rolls-Binary op (placed c scope a) (placed c scope b)

  pub placed-IsNull : (a : Expr) (negated : Bool) → placed c scope (e.IsNull a negated) ≡ e.IsNull (placed c scope a) negated
  unfolding placed with_places
  placed-IsNull a negated = fold-IsNull (places_step (place_of c scope)) a negated ∙ rolls-IsNull (placed c scope a) negated

  pub placed-Between : (a low high : Expr) (negated : Bool) → placed c scope (e.Between a low high negated) ≡ e.Between (placed c scope a) (placed c scope low) (placed c scope high) negated
  unfolding placed with_places
  placed-Between a low high negated =
      fold-Between (places_step (place_of c scope)) a low high negated ∙ rolls-Between (placed c scope a) (placed c scope low) (placed c scope high) negated

  pub placed-InList : (a : Expr) (items : List Expr) (negated : Bool) → placed c scope (e.InList a items negated) ≡ e.InList (placed c scope a) (map (placed c scope) items) negated
  unfolding placed with_places
  placed-InList a items negated = fold-InList (places_step (place_of c scope)) a items negated ∙ rolls-InList (placed c scope a) (map (placed c scope) items) negated

  pub placed-Count : (kind : AggregateKind) → placed c scope (e.Aggregate kind None) ≡ e.Aggregate kind None
  unfolding placed with_places
  placed-Count kind = fold-Count (places_step (place_of c scope)) kind ∙ rolls-Aggregate kind None

  pub placed-Aggregate : (kind : AggregateKind) (a : Expr) → placed c scope (e.Aggregate kind (Some a)) ≡ e.Aggregate kind (Some (placed c scope a))
  unfolding placed with_places
  placed-Aggregate kind a = fold-Aggregate (places_step (place_of c scope)) kind a ∙ rolls-Aggregate kind (Some (placed c scope a))

  pub placed_begun : (head whole : Expr) (operations items : List Operation) (start : Expr) → chain head operations ≡ whole → items ≡ operations → start ≡ placed c scope head
      → fold (λ (left : Expr) (o : Operation). e.Binary o.op left (placed c scope o.right.now)) start items ≡ placed c scope whole
  placed_begun = chain_begun (placed c scope) (λ op left right. e.Binary op left right) placed-Binary

pub ruleset places = (placed-Literal, placed-Named, placed-Placed, placed-Unary, placed-IsNull, placed-Between, placed-InList, placed-Count, placed-Aggregate)
