-- What is computed of an expression level by level, along a chain of operations.
use Rattle.std.proofs.Common.{arith, ◌≡◌, ℕ, ◌+◌, ◌<◌, ◌≤◌, length, get_or, drop, slice_get, Some, List, [], ◌∷◌, refl, ap, sym, ◌∙◌}
use Rattle.std.specs.List.{fold}
use Rattle.wat_ast.specs.declared.expression.BinaryOp.{BinaryOp}
use Rattle.std.proofs.lemmas.List.{drop_more, drop_all}
use Rattle.std.proofs.lemmas.Option.{slice_get-get_or}
use Rattle.wat_ast.specs.declared.expression.Expr.{Expr, size-Expr}
use Rattle.wat_ast.specs.declared.expression.Expr.TheVariants as e
use Rattle.wat_walk.specs.declared.spine.Operation.{Operation}
use Rattle.wat_walk.specs.Chain.{chain, operated}
use Rattle.wat_walk.proofs.Chains.{first_fits, right_is_smaller}

module _ {A : Type 0} (P : Expr → A) (join : BinaryOp → A → A → A) (level : (op : BinaryOp) (a b : Expr) → P (e.Binary op a b) ≡ join op (P a) (P b)) where
  pub chain-fold : (first : Expr) (operations : List Operation) → P (chain first operations) ≡ fold (λ left o. join o.op left (P o.right.now)) (P first) operations
  chain-fold first [] = refl
  chain-fold first (o ∷ rest) = chain-fold (operated first o) rest ∙ ap (λ left. fold (λ left o. join o.op left (P o.right.now)) left rest) (level o.op first o.right.now)

  -- before the first operation
  pub chain_begun : (head whole : Expr) (operations items : List Operation) (start : A) → chain head operations ≡ whole → items ≡ operations → start ≡ P head
      → fold (λ left o. join o.op left (P o.right.now)) start items ≡ P whole
  chain_begun head whole operations items start is same first =
      ap (λ (s : A). fold (λ left o. join o.op left (P o.right.now)) s items) first
      ∙ (ap (fold (λ left o. join o.op left (P o.right.now)) (P head)) same ∙ (sym (chain-fold head operations) ∙ ap P is))

-- one operation more
pub fold_next : {A : Type 0} (step : A → Operation → A) (state next whole : A) (items : List Operation) (i : ℕ) (o : Operation) → i < length items → o ≡ get_or items i o
    → next ≡ step state o → fold step state (drop i items) ≡ whole → fold step next (drop (i + 1) items) ≡ whole
fold_next step state next whole items i o within is made before =
    ap (λ s. fold step s (drop (i + 1) items)) (made ∙ ap (step state) is)
    ∙ (sym (ap (fold step state) (drop_more items i o within)) ∙ before)

-- no operation is left
pub fold_done : {A : Type 0} (step : A → Operation → A) (state whole : A) (items : List Operation) (i : ℕ) → length items ≤ i → fold step state (drop i items) ≡ whole → state ≡ whole
fold_done step state whole items i past before = sym (ap (fold step state) (drop_all i items past)) ∙ before

-- a first operand is no larger than its chain
pub head_fits : (head whole : Expr) (operations : List Operation) → chain head operations ≡ whole → size-Expr head ≤ size-Expr whole
head_fits head whole operations is =
    let fits = first_fits head operations in
    let same : size-Expr (chain head operations) ≡ size-Expr whole = ap size-Expr is in
    omega arith

-- a right operand is smaller than its chain
pub right_fits : (head whole : Expr) (operations items : List Operation) (i : ℕ) (o : Operation) → chain head operations ≡ whole → items ≡ operations → i < length items → o ≡ get_or items i o
    → size-Expr o.right.now < size-Expr whole
right_fits head whole operations items i o is same-items within at =
    let found : slice_get items i ≡ Some o = slice_get-get_or items i o within ∙ ap Some (sym at) in
    let in-chain : slice_get operations i ≡ Some o = ap (λ (xs : List Operation). slice_get xs i) (sym same-items) ∙ found in
    let less = right_is_smaller head operations i o in-chain in
    let same : size-Expr (chain head operations) ≡ size-Expr whole = ap size-Expr is in
    omega arith
