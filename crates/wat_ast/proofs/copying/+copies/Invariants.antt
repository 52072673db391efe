use Rattle.std.proofs.Common.{◌≡◌, ◌≤◌, take}
use Rattle.wat_ast.specs.Chain.{grown}
use Rattle.wat_ast.specs.declared.expression.Expr.{size-Expr}
use Rattle.wat_ast.proofs.copying.+copies.Given as goal

abbrev pub invariant-copy_of-loop-rest : goal.invariant-copy_of-loop-rest
invariant-copy_of-loop-rest l = (grown l.rest l.operations.items ≡ l.fn.expr) × (size-Expr l.rest ≤ size-Expr l.fn.expr)

abbrev pub invariant-copies-loop-expr : goal.invariant-copies-loop-expr
invariant-copies-loop-expr l = l.copies ≡ take l.expr-index l.fn.exprs
