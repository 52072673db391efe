-- The columns of an expression that are refused, by the kind of the expression.
use Rattle.std.proofs.Common.{◌≡◌, ℕ, Bool, List, [], ◌∷◌, ◌++◌, map, Option, Some, None, refl, ap, sym, ◌∙◌}
use Rattle.std.specs.List.{flat_map, filter_map, cons_option}
use Rattle.std.specs.Option.{option_or, option_to_list}
use Rattle.std.proofs.lemmas.List.{append-nil, append_assoc}
use Rattle.std.proofs.lemmas.List.Concat.{flat_map-append}
use Rattle.wat_value.specs.declared.value.Value.{Value}
use Rattle.wat_ast.specs.declared.expression.UnaryOp.{UnaryOp}
use Rattle.wat_ast.specs.declared.expression.BinaryOp.{BinaryOp}
use Rattle.wat_ast.specs.declared.expression.AggregateKind.{AggregateKind}
use Rattle.wat_ast.specs.declared.expression.Expr.{Expr}
use Rattle.wat_ast.specs.declared.expression.Expr.TheVariants as e
use Rattle.wat_walk.specs.declared.spine.Operation.{Operation}
use Rattle.wat_walk.specs.Chain.{chain, operated}
use Rattle.wat_ast.specs.declared.query.OrderItem.{OrderItem}
use Rattle.wat_ast.specs.declared.query.Query.{Query}
use Rattle.wat_walk.specs.Queries.{listed, order_column}
use Rattle.wat_walk.specs.Parts.{Written, written_in, written_step}
use Rattle.wat_walk.proofs.FoldLemmas.{fold-Literal, fold-Named, fold-Placed, fold-Unary, fold-Binary, fold-IsNull, fold-Between, fold-InList, fold-Count, fold-Aggregate}
use Rattle.wat_schema.specs.declared.refusal.Refusal.{Refusal}
use Rattle.wat_schema.specs.Catalog.{Catalog}
use Rattle.wat_names.specs.Refusals.{first}
use Rattle.wat_scope.specs.Scope.{Scope, query_scope}
use Rattle.wat_names.specs.Columns.{column_refusals, in_expression, in_expressions, in_query}
use Rattle.wat_names.proofs.Firsts.{first-append}

flat_map-flat_map : {X Y Z : Type 0} (f : Y → List Z) (g : X → List Y) (xs : List X) → flat_map f (flat_map (λ y. y) (map g xs)) ≡ flat_map (λ x. flat_map f (g x)) xs
flat_map-flat_map f g [] = refl
flat_map-flat_map f g (x ∷ xs) = flat_map-append f (g x) (flat_map (λ y. y) (map g xs)) ∙ ap (λ rest. flat_map f (g x) ++ rest) (flat_map-flat_map f g xs)

module _ (c : Catalog) (scope : Scope) where
  over : (expr : Expr) (written : List Written) → written_in expr ≡ written → in_expression c scope expr ≡ flat_map (column_refusals c scope) written
  unfolding in_expression
  over expr written is = ap (flat_map (column_refusals c scope)) is

  in-Binary : (op : BinaryOp) (a b : Expr) → in_expression c scope (e.Binary op a b) ≡ in_expression c scope a ++ in_expression c scope b
  unfolding in_expression written_in
  in-Binary op a b =
      over (e.Binary op a b) (written_in a ++ (written_in b ++ [])) (fold-Binary written_step op a b)
      ∙ (ap (λ rest. flat_map (column_refusals c scope) (written_in a ++ rest)) (append-nil (written_in b))
      ∙ flat_map-append (column_refusals c scope) (written_in a) (written_in b))

  in-chain : (first : Expr) (operations : List Operation) → in_expression c scope (chain first operations) ≡ in_expression c scope first ++ flat_map (λ (o : Operation). in_expression c scope o.right.now) operations
  in-chain first [] = sym (append-nil (in_expression c scope first))
  in-chain first (o ∷ rest) =
      in-chain (operated first o) rest
      ∙ (ap (λ front. front ++ flat_map (λ (o : Operation). in_expression c scope o.right.now) rest) (in-Binary o.op first o.right.now)
      ∙ append_assoc (in_expression c scope first) (in_expression c scope o.right.now) (flat_map (λ (o : Operation). in_expression c scope o.right.now) rest))

  pub first-Literal : (v : Value) → first (in_expression c scope (e.Literal v)) ≡ None
  unfolding in_expression written_in
  first-Literal v = ap first (over (e.Literal v) [] (fold-Literal written_step v))

  pub first-Named : (table : Option (List ℕ)) (name : List ℕ) → first (in_expression c scope (e.Named table name)) ≡ first (column_refusals c scope (table, name))
  unfolding in_expression written_in
  first-Named table name = ap first (over (e.Named table name) ((table, name) ∷ []) (fold-Named written_step table name) ∙ append-nil (column_refusals c scope (table, name)))

  pub first-Placed : (source column : ℕ) → first (in_expression c scope (e.Placed source column)) ≡ None
  unfolding in_expression written_in
  first-Placed source column = ap first (over (e.Placed source column) [] (fold-Placed written_step source column))

  alone : (whole a : Expr) → written_in whole ≡ written_in a ++ [] → first (in_expression c scope whole) ≡ first (in_expression c scope a)
  unfolding in_expression
  alone whole a is = ap first (over whole (written_in a ++ []) is ∙ ap (flat_map (column_refusals c scope)) (append-nil (written_in a)))

  pub first-Unary : (op : UnaryOp) (a : Expr) → first (in_expression c scope (e.Unary op a)) ≡ first (in_expression c scope a)
  unfolding written_in
  first-Unary op a = alone (e.Unary op a) a (fold-Unary written_step op a)

  pub first-Binary : (op : BinaryOp) (a b : Expr) → first (in_expression c scope (e.Binary op a b)) ≡ option_or (first (in_expression c scope a)) (first (in_expression c scope b))
  first-Binary op a b = ap first (in-Binary op a b) ∙ first-append (in_expression c scope a) (in_expression c scope b)

  pub first-IsNull : (a : Expr) (negated : Bool) → first (in_expression c scope (e.IsNull a negated)) ≡ first (in_expression c scope a)
  unfolding written_in
  first-IsNull a negated = alone (e.IsNull a negated) a (fold-IsNull written_step a negated)

  pub first-Between : (a low high : Expr) (negated : Bool)
      → first (in_expression c scope (e.Between a low high negated)) ≡ option_or (first (in_expression c scope a)) (option_or (first (in_expression c scope low)) (first (in_expression c scope high)))
  unfolding in_expression written_in
  first-Between a low high negated =
      let f = column_refusals c scope in
      ap first (over (e.Between a low high negated) (written_in a ++ (written_in low ++ (written_in high ++ []))) (fold-Between written_step a low high negated)
      ∙ (ap (λ rest. flat_map f (written_in a ++ (written_in low ++ rest))) (append-nil (written_in high))
      ∙ (flat_map-append f (written_in a) (written_in low ++ written_in high)
      ∙ ap (λ rest. flat_map f (written_in a) ++ rest) (flat_map-append f (written_in low) (written_in high)))))
      ∙ (first-append (in_expression c scope a) (in_expression c scope low ++ in_expression c scope high)
      ∙ ap (option_or (first (in_expression c scope a))) (first-append (in_expression c scope low) (in_expression c scope high)))

  pub first-InList : (a : Expr) (items : List Expr) (negated : Bool)
      → first (in_expression c scope (e.InList a items negated)) ≡ option_or (first (in_expression c scope a)) (first (in_expressions c scope items))
  unfolding in_expression written_in
  first-InList a items negated =
      let f = column_refusals c scope in
      ap first (over (e.InList a items negated) (written_in a ++ flat_map (λ x. x) (map written_in items)) (fold-InList written_step a items negated)
      ∙ (flat_map-append f (written_in a) (flat_map (λ x. x) (map written_in items))
      ∙ ap (λ rest. flat_map f (written_in a) ++ rest) (flat_map-flat_map f written_in items)))
      ∙ first-append (in_expression c scope a) (in_expressions c scope items)

  pub first-Count : (kind : AggregateKind) → first (in_expression c scope (e.Aggregate kind None)) ≡ None
  unfolding in_expression written_in
  first-Count kind = ap first (over (e.Aggregate kind None) [] (fold-Count written_step kind))

  pub first-Aggregate : (kind : AggregateKind) (a : Expr) → first (in_expression c scope (e.Aggregate kind (Some a))) ≡ first (in_expression c scope a)
  unfolding written_in
  first-Aggregate kind a = alone (e.Aggregate kind (Some a)) a (fold-Aggregate written_step kind a)

  -- behind a first operand without a refusal, those of the right operands
  pub first_of_chain : (head whole : Expr) (operations : List Operation) → chain head operations ≡ whole
      → first (in_expression c scope whole) ≡ option_or (first (in_expression c scope head)) (first (flat_map (λ (o : Operation). in_expression c scope o.right.now) operations))
  first_of_chain head whole operations is =
      ap (λ (t : Expr). first (in_expression c scope t)) (sym is) ∙ (ap first (in-chain head operations)
      ∙ first-append (in_expression c scope head) (flat_map (λ (o : Operation). in_expression c scope o.right.now) operations))

pub ruleset refused = (first-Literal, first-Named, first-Placed, first-Unary, first-IsNull, first-Between, first-InList, first-Count, first-Aggregate)

both : (c : Catalog) (scope : Scope) (xs ys : List Expr) → first (in_expressions c scope (xs ++ ys)) ≡ option_or (first (in_expressions c scope xs)) (first (in_expressions c scope ys))
both c scope xs ys = ap first (flat_map-append (in_expression c scope) xs ys) ∙ first-append (in_expressions c scope xs) (in_expressions c scope ys)

-- the clauses of a query, one after another
pub first_in_query : (c : Catalog) (q : Query) → first (in_query c q) ≡
    (let s = query_scope c q in
    option_or (option_or (option_or (option_or (first (in_expressions c s (listed q.items))) (first (in_expressions c s (option_to_list q.filter)))) (first (in_expressions c s q.group)))
    (first (in_expressions c s (option_to_list q.having)))) (first (in_expressions c s (filter_map order_column q.order))))
unfolding in_query
first_in_query c q =
    let s : Scope = query_scope c q in
    let a = listed q.items in
    let b = option_to_list q.filter in
    let d = option_to_list q.having in
    let o = filter_map order_column q.order in
    both c s (a ++ b ++ q.group ++ d) o
    ∙ (ap (λ x. option_or x (first (in_expressions c s o))) (both c s (a ++ b ++ q.group) d)
    ∙ (ap (λ x. option_or (option_or x (first (in_expressions c s d))) (first (in_expressions c s o))) (both c s (a ++ b) q.group)
    ∙ ap (λ x. option_or (option_or (option_or x (first (in_expressions c s q.group))) (first (in_expressions c s d))) (first (in_expressions c s o))) (both c s a b)))

one_item : (c : Catalog) (scope : Scope) (column : Option Expr) (columns : List Expr) (rest : List Refusal) → in_expressions c scope columns ≡ rest
    → in_expressions c scope (cons_option column columns) ≡ in_expressions c scope (option_to_list column) ++ rest
one_item c scope None columns rest is = is
one_item c scope (Some column) columns rest is =
    ap (λ more. in_expression c scope column ++ more) is ∙ ap (λ front. front ++ rest) (sym (append-nil (in_expression c scope column)))

-- the items of ORDER BY one by one
pub in_order_items : (c : Catalog) (scope : Scope) (order : List OrderItem)
    → in_expressions c scope (filter_map order_column order) ≡ flat_map (λ (item : OrderItem). in_expressions c scope (option_to_list (order_column item))) order
in_order_items c scope [] = refl
in_order_items c scope (item ∷ order) =
    one_item c scope (order_column item) (filter_map order_column order) (flat_map (λ (item : OrderItem). in_expressions c scope (option_to_list (order_column item))) order) (in_order_items c scope order)

pub count_of : (c : Catalog) (scope : Scope) (whole : Expr) (kind : AggregateKind) (arg : Option Expr) → whole ≡ e.Aggregate kind arg → arg ≡ None → None ≡ first (in_expression c scope whole)
count_of c scope whole kind arg is none = sym (ap (λ (t : Expr). first (in_expression c scope t)) (is ∙ ap (e.Aggregate kind) none) ∙ first-Count c scope kind)

pub aggregate_of : (c : Catalog) (scope : Scope) (whole a : Expr) (kind : AggregateKind) (arg : Option Expr) → whole ≡ e.Aggregate kind arg → arg ≡ Some a
    → first (in_expression c scope whole) ≡ first (in_expression c scope a)
aggregate_of c scope whole a kind arg is some = ap (λ (t : Expr). first (in_expression c scope t)) (is ∙ ap (e.Aggregate kind) some) ∙ first-Aggregate c scope kind a
