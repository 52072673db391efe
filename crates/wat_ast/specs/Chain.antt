-- Chains of operations that are grouped to the left.
use Rattle.std.specs.Prelude.{List, [], ◌∷◌}
use Rattle.wat_ast.specs.declared.copying.Operation.{Operation}
use Rattle.wat_ast.specs.declared.expression.Expr.{Expr}
use Rattle.wat_ast.specs.declared.expression.Expr.TheVariants as e

-- The chain of these operations on a first operand. The outermost operation comes first, and the last one stands at the operand.
abbrev pub grown : Expr → List Operation → Expr
grown first [] = first
grown first (x ∷ inner) = e.Binary x.op (grown first inner) x.right
