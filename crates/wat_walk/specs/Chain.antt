-- Chains of operations that are grouped to the left.
use Rattle.std.specs.Prelude.{◌≢◌, List}
use Rattle.std.specs.List.{fold}
use Rattle.wat_ast.specs.declared.expression.BinaryOp.{BinaryOp}
use Rattle.wat_ast.specs.declared.expression.Expr.{Expr}
use Rattle.wat_ast.specs.declared.expression.Expr.TheVariants as e
use Rattle.wat_walk.specs.declared.spine.Operation.{Operation}

-- a left operand with an operator and its right operand behind it
abbrev pub operated : Expr → Operation → Expr
operated left operation = e.Binary operation.op left operation.right.now

-- `first`, and each operation in turn on all that stands before it
abbrev pub chain : Expr → List Operation → Expr
chain = fold operated

-- the expression is no operation on two operands
abbrev pub IsOperand : Expr → Type 0
IsOperand first = (op : BinaryOp) (left right : Expr) → first ≢ e.Binary op left right
