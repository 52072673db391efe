-- One operation more, at the first operand of a chain.
use Rattle.std.proofs.Common.{arith, ◌≡◌, ◌<◌, ◌+◌, max, List, [], ◌∷◌, ◌++◌, refl, sym, ◌∙◌, ap}
use Rattle.wat_ast.specs.Chain.{grown}
use Rattle.wat_ast.specs.declared.copying.Operation.{Operation}
use Rattle.wat_ast.specs.declared.expression.BinaryOp.{BinaryOp}
use Rattle.wat_ast.specs.declared.expression.Expr.{Expr, size-Expr}
use Rattle.wat_ast.specs.declared.expression.Expr.TheViews.{sized-Binary}
use Rattle.wat_ast.specs.declared.expression.Expr.TheVariants as e

pub grown_push : (first : Expr) (ops : List Operation) (x : Operation) → grown first (ops ++ x ∷ []) ≡ grown (e.Binary x.op first x.right) ops
grown_push first [] x = refl
grown_push first (y ∷ ops) x = ap (λ (t : Expr). e.Binary y.op t y.right) (grown_push first ops x)

pub goes_down : (ops more : List Operation) (next rest whole : Expr) (op : BinaryOp) (left right copy : Expr) → rest ≡ e.Binary op left right → next ≡ left → copy ≡ right
    → more ≡ ops ++ (let x : Operation = record { op = op; right = copy } in x) ∷ [] → grown rest ops ≡ whole → grown next more ≡ whole
goes_down ops more next rest whole op left right copy r n c m w =
    let x : Operation = record { op = op; right = copy } in
    ap (grown next) m ∙ (grown_push next ops x ∙ (ap (λ (t : Expr). grown (e.Binary op t copy) ops) n ∙ (ap (λ (t : Expr). grown (e.Binary op left t) ops) c
    ∙ (ap (λ (t : Expr). grown t ops) (sym r) ∙ w))))

pub left_is_smaller : (op : BinaryOp) (left right : Expr) → size-Expr left < size-Expr (e.Binary op left right)
left_is_smaller op left right = let s : size-Expr (e.Binary op left right) ≡ max 0 (max (size-Expr left) (max (size-Expr right) 0)) + 1 = sized-Binary op left right in omega arith
