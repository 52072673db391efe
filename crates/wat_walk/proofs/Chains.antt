-- Chains of operations, and their sizes.
use Rattle.std.proofs.Common.{arith, ◌≡◌, ◌<◌, ◌≤◌, ◌+◌, ℕ, zero, suc, max, length, get_or, List, [], ◌∷◌, ◌++◌, reverse, ap, Some}
use Rattle.std.specs.List.{slice_get}
use Rattle.std.proofs.lemmas.List.{reverse-append}
use Rattle.wat_ast.specs.declared.expression.BinaryOp.{BinaryOp}
use Rattle.wat_ast.specs.declared.expression.Expr.{Expr, size-Expr}
use Rattle.wat_ast.specs.declared.expression.Expr.TheViews.{sized-Binary}
use Rattle.wat_ast.specs.declared.expression.Expr.TheVariants as e
use Rattle.wat_walk.specs.declared.spine.Operation.{Operation}
use Rattle.wat_walk.specs.Chain.{chain, operated}

-- an operation that was met on the way down stands before those that were met earlier
pub chain_down : (left : Expr) (o : Operation) (met : List Operation) → chain left (reverse (met ++ o ∷ [])) ≡ chain (operated left o) (reverse met)
chain_down left o met = ap (chain left) (reverse-append met (o ∷ []))

-- an operand of an operation is smaller than the operation
pub operands_are_smaller : (op : BinaryOp) (left right : Expr) → (size-Expr left < size-Expr (e.Binary op left right)) × (size-Expr right < size-Expr (e.Binary op left right))
operands_are_smaller op left right =
    let s : size-Expr (e.Binary op left right) ≡ max 0 (max (size-Expr left) (max (size-Expr right) 0)) + 1 = sized-Binary op left right in
    (omega arith, omega arith)

-- the first operand is no larger than the chain
pub first_fits : (first : Expr) (operations : List Operation) → size-Expr first ≤ size-Expr (chain first operations)
first_fits first [] = omega arith
first_fits first (o ∷ rest) =
    let one = operands_are_smaller o.op first o.right.now in
    let more = first_fits (operated first o) rest in
    omega arith

-- each right operand is smaller than the chain
pub right_is_smaller : (first : Expr) (operations : List Operation) (i : ℕ) (o : Operation) → slice_get operations i ≡ Some o → size-Expr o.right.now < size-Expr (chain first operations)
right_is_smaller first [] i o is = cc
right_is_smaller first (x ∷ rest) zero o is =
    let same : x ≡ o = cc in
    let size : size-Expr x.right.now ≡ size-Expr o.right.now = ap (λ (y : Operation). size-Expr y.right.now) same in
    let one = operands_are_smaller x.op first x.right.now in
    let more = first_fits (operated first x) rest in
    omega arith
right_is_smaller first (x ∷ rest) (suc i) o is = right_is_smaller (operated first x) rest i o is

pub operand_is_smaller : (first : Expr) (operations : List Operation) (i : ℕ) (d : Operation) → i < length operations → size-Expr (get_or operations i d).right.now < size-Expr (chain first operations)
operand_is_smaller first [] i d within = absurd (omega arith)
operand_is_smaller first (x ∷ rest) zero d within =
    let one = operands_are_smaller x.op first x.right.now in
    let more = first_fits (operated first x) rest in
    omega arith
operand_is_smaller first (x ∷ rest) (suc i) d within = operand_is_smaller (operated first x) rest i d (omega arith)
