-- A function that reads the phrases that nest, one level deeper.
use Rattle.std.specs.Prelude.{◌≢◌, ℕ, ◌-◌, List, Result}
use Rattle.std.specs.declared.alloc.Global.{Global}
use denote.Ref.{MutBor}
use Rattle.wat_ast.specs.declared.expression.Expr.{Expr}
use Rattle.wat_grammar.specs.Phrase.{read_within}
use Rattle.wat_syntax.specs.declared.nest.Nest.{Nest}
use Rattle.wat_syntax.specs.Lexeme.{Lexeme}
use Rattle.wat_syntax.specs.Sql.{sql, rule_of}
use Rattle.wat_cursor.specs.declared.fault.Fault.{Fault}
use Rattle.wat_cursor.specs.Reading.{Reads}

pub record Nests (levels : ℕ) (pre : Global → MutBor (List Lexeme) → ℕ → Nest → Type 0)
    (post : Global → MutBor (List Lexeme) → ℕ → Nest → Result Expr Fault → MutBor (List Lexeme) → Type 0) : Type 0 where
  pub callable : levels ≢ 0 → (alloc : Global) (old : MutBor (List Lexeme)) (nest : Nest) → pre alloc old (levels - 1) nest
  pub reads : (alloc : Global) (old new : MutBor (List Lexeme)) (nest : Nest) (r : Result Expr Fault) → post alloc old (levels - 1) nest r new
      → Reads (read_within sql (levels - 1) (rule_of nest) old.now) r new.now
