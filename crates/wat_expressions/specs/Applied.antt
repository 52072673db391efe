-- What stands behind an operand makes a test of it.
use Rattle.std.specs.Prelude.{ℕ, Bool, List, Ok}
use Rattle.wat_ast.specs.declared.expression.Expr.{Expr}
use Rattle.wat_grammar.specs.Phrase.{Outcome, ◌>>=◌, read_within}
use Rattle.wat_syntax.specs.Lexeme.{Lexeme}
use Rattle.wat_syntax.specs.Sql.{Sql, sql, Change}

-- what the phrase makes of the operand before it
abbrev pub read_applied : ℕ → Sql Change → Expr → List Lexeme → Outcome Lexeme Expr
read_applied levels p arg ts = read_within sql levels p ts >>= (λ change us. Ok (change arg, us))

-- the same, where NOT may stand before it
abbrev pub read_ranged : ℕ → Sql (Bool → Change) → Bool → Expr → List Lexeme → Outcome Lexeme Expr
read_ranged levels p negated arg ts = read_within sql levels p ts >>= (λ change us. Ok (change negated arg, us))
