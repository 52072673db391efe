-- A chain of operations, read turn by turn.
use Rattle.std.proofs.Common.{◌≡◌, ℕ, ◌+◌, ◌-◌, ◌<◌, ◌≤◌, true, false, List, Ok, Err, refl}
use Rattle.wat_ast.specs.declared.expression.BinaryOp.{BinaryOp}
use Rattle.wat_ast.specs.declared.expression.Expr.{Expr}
use Rattle.wat_ast.specs.declared.expression.Expr.TheVariants as e
use Rattle.wat_grammar.specs.Phrase.{Outcome, seq, first_kinds, sees, read_within}
use Rattle.wat_grammar.proofs.Outcomes.{bind_of, bind_err_of}
use Rattle.wat_syntax.specs.declared.kind.Kind.{Kind}
use Rattle.wat_syntax.specs.Lexeme.{Lexeme}
use Rattle.wat_syntax.specs.Sql.{Sql, sql, operation}
use Rattle.wat_cursor.proofs.Turns as turn

-- the chain on a first operand, with so many turns left
abbrev pub grouped : Expr → ℕ → Sql BinaryOp → Sql Expr → ℕ → List Lexeme → Outcome Lexeme Expr
grouped left levels op p n ts = turn.folded operation left (turn.turns levels (seq op p) n ts)

module _ (levels : ℕ) (op : Sql BinaryOp) (p : Sql Expr) (ks : List Kind) (starts : first_kinds sql (seq op p) ≡ ks) (left : Expr) (ts : List Lexeme) where
  pub stops : (n : ℕ) → sees sql ks ts ≡ false → grouped left levels op p n ts ≡ Ok (left, ts)
  stops = turn.stops operation levels (seq op p) ks starts left ts

  pub ends : (n at : ℕ) → n ≤ at → grouped left levels op p (n - at) ts ≡ Ok (left, ts)
  ends = turn.ends operation levels (seq op p) ks starts left ts

  module _ (n at : ℕ) (below : at < n) (go : sees sql ks ts ≡ true) where
    pub no_operator : (us : List Lexeme) → read_within sql levels op ts ≡ Err us → grouped left levels op p (n - at) ts ≡ Err us
    no_operator us h = turn.fails operation levels (seq op p) ks starts left ts n at below go us (bind_err_of (read_within sql levels op ts) _ us h)

    module _ (o : BinaryOp) (us : List Lexeme) (found : read_within sql levels op ts ≡ Ok (o, us)) where
      pub no_operand : (vs : List Lexeme) → read_within sql levels p us ≡ Err vs → grouped left levels op p (n - at) ts ≡ Err vs
      no_operand vs h = turn.fails operation levels (seq op p) ks starts left ts n at below go vs
          (bind_of (read_within sql levels op ts) _ o us _ found (bind_err_of (read_within sql levels p us) _ vs h))

      pub goes_on : (right : Expr) (vs : List Lexeme) → read_within sql levels p us ≡ Ok (right, vs)
          → grouped (e.Binary o left right) levels op p (n - (at + 1)) vs ≡ grouped left levels op p (n - at) ts
      goes_on right vs h = turn.goes_on operation levels (seq op p) ks starts left ts n at below go (o, right) vs
          (bind_of (read_within sql levels op ts) _ o us _ found (bind_of (read_within sql levels p us) _ right vs _ h refl))
