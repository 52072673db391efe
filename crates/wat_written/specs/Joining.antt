-- What a loop over the columns of a key keeps. Only functions within the crate cite this.
use Rattle.std.specs.Prelude.{Option, Some, None}
use Rattle.wat_ast.specs.declared.expression.BinaryOp.TheVariants.{And}
use Rattle.wat_ast.specs.declared.expression.Expr.{Expr}
use Rattle.wat_ast.specs.declared.expression.Expr.TheVariants.{Binary}

-- the tests so far and one more, where there is one
abbrev pub with_test : Option Expr → Option Expr → Option Expr
with_test tests None = tests
with_test None (Some test) = Some test
with_test (Some tests) (Some test) = Some (Binary And tests test)
