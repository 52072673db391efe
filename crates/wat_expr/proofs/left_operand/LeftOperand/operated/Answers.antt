use Rattle.std.proofs.Common.{◌≡◌, ◌⊎◌, inl, inr, refl, ap, ◌∙◌}
use Rattle.wat_ast.specs.declared.expression.BinaryOp.{BinaryOp}
use Rattle.wat_ast.specs.declared.expression.BinaryOp.TheVariants.{Add, Subtract, Multiply, Divide}
use Rattle.wat_expr.specs.declared.outcome.Outcome.{Outcome}
use Rattle.wat_expr.specs.Operators.{arithmetic, binary}
use Rattle.wat_expr.specs.Private.{outcome_so_far}
use Rattle.wat_expr.proofs.left_operand.LeftOperand.operated.Goals as goal

is_arithmetic : (op : BinaryOp) (a b : Outcome) → (op ≡ Add) ⊎ ((op ≡ Subtract) ⊎ ((op ≡ Multiply) ⊎ (op ≡ Divide))) → arithmetic op a b ≡ binary op a b
unfolding binary
is_arithmetic op a b (inl e) = rw e refl
is_arithmetic op a b (inr (inl e)) = rw e refl
is_arithmetic op a b (inr (inr (inl e))) = rw e refl
is_arithmetic op a b (inr (inr (inr e))) = rw e refl

pub returns-in_ok-left-in-Add : goal.returns-in_ok-left-in-Add
returns-in_ok-left-in-Add c =
    c.arithmetic.ensures ∙ (ap (λ (left : Outcome). arithmetic c.args.op left c.args.right) c.in_ok-left-in-Add.ensures ∙ is_arithmetic c.args.op (outcome_so_far c.args.self) c.args.right c.in-Add.is)
