-- What stands inside a level that was opened.
use Rattle.std.proofs.Common.{◌≡◌, ◌≢◌, ℕ, zero, suc, ◌-◌, List, refl, ap, arith}
use Rattle.wat_grammar.specs.Phrase.{read_within, read_inside}
use Rattle.wat_syntax.specs.declared.nest.Nest.{Nest}
use Rattle.wat_syntax.specs.Lexeme.{Lexeme}
use Rattle.wat_syntax.specs.Sql.{sql, rule_of}

pub inside_is : (levels : ℕ) (n : Nest) (ts : List Lexeme) → levels ≢ 0 → read_within sql (levels - 1) (rule_of n) ts ≡ read_inside sql levels n ts
inside_is zero n ts h = absurd (h refl)
inside_is (suc levels) n ts h = let e : suc levels - 1 ≡ levels = omega arith in ap (λ (l : ℕ). read_within sql l (rule_of n) ts) e
