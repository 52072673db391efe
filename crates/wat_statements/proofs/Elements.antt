-- The parts of a column, one after the other.
use Rattle.std.proofs.Common.{◌≡◌, ℕ, List, fold, Ok, Err, refl}
use Rattle.wat_grammar.specs.Phrase.{Outcome, ◌>>=◌, many, read_within}
use Rattle.wat_syntax.specs.Lexeme.{Lexeme}
use Rattle.wat_syntax.specs.Sql.{sql, name, type_name, no_rules, ruled, column_rule, column_element, defined_column}
use Rattle.wat_statements.specs.ColumnRules.{column_rules}

abbrev mapped : {A B : Type 0} → (A → B) → Outcome Lexeme A → Outcome Lexeme B
mapped f o = o >>= (λ a us. Ok (f a, us))

abbrev behind : {A B : Type 0} → A → Outcome Lexeme B → Outcome Lexeme (A × B)
behind a o = o >>= (λ b us. Ok ((a, b), us))

abbrev both : {A B : Type 0} → Outcome Lexeme A → (List Lexeme → Outcome Lexeme B) → Outcome Lexeme (A × B)
both o p = o >>= (λ a us. behind a (p us))

module _ {A B C D E : Type 0} (f : C → D) (g : A → B → D → E) where
  abbrev made : A × (B × C) → E
  made x = g x.0 x.1.0 (f x.1.1)

  last : (a : A) (b : B) (o : Outcome Lexeme C) → mapped made (behind a (behind b o)) ≡ (mapped f o >>= (λ d ws. Ok (g a b d, ws)))
  last a b (Ok x) = refl
  last a b (Err r) = refl

  middle : (a : A) (o : Outcome Lexeme B) (q : List Lexeme → Outcome Lexeme C)
      → mapped made (behind a (both o q)) ≡ (o >>= (λ b vs. mapped f (q vs) >>= (λ d ws. Ok (g a b d, ws))))
  middle a (Ok x) q = last a x.0 (q x.1)
  middle a (Err r) q = refl

  all : (o : Outcome Lexeme A) (p : List Lexeme → Outcome Lexeme B) (q : List Lexeme → Outcome Lexeme C)
      → mapped made (both o (λ us. both (p us) q)) ≡ (o >>= (λ a us. p us >>= (λ b vs. mapped f (q vs) >>= (λ d ws. Ok (g a b d, ws)))))
  all (Ok x) p q = middle x.0 (p x.1) q
  all (Err r) p q = refl

pub defined_column_is : (levels : ℕ) (ts : List Lexeme) → read_within sql levels defined_column ts
    ≡ (read_within sql levels name ts >>= (λ n us. read_within sql levels type_name us >>= (λ t vs. read_within sql levels column_rules vs >>= (λ r ws. Ok (column_element n t r, ws)))))
unfolding defined_column
defined_column_is levels ts =
    all (fold ruled no_rules) column_element (read_within sql levels name ts) (read_within sql levels type_name) (read_within sql levels (many column_rule))
