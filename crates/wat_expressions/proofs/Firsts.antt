-- The tokens with which the phrases begin, and what that makes of a choice.
use Rattle.std.proofs.Common.{◌≡◌, ℕ, Bool, true, false, List, [], ◌∷◌, Some, if◌then◌else◌, Ok, Err, refl, ◌∙◌, ap}
use Rattle.wat_ast.specs.declared.expression.Expr.{Expr}
use Rattle.wat_grammar.specs.Phrase.{Outcome, ◌>>=◌, seq, first_kinds, sees, read_within, read_token}
use Rattle.wat_grammar.proofs.Outcomes.{bind_assoc, pair_bind}
use Rattle.wat_syntax.specs.declared.kind.Kind.{Kind}
use Rattle.wat_syntax.specs.declared.kind.Kind.TheVariants as k
use Rattle.wat_syntax.specs.Lexeme.{Lexeme}
use Rattle.wat_syntax.specs.Sql.{Sql, sql, column, parenthesized, count, term_operator, factor, sum_operator, term, conjunction_operator, negation, expression_operator, conjunction, compared, comparison, is_null, between, among, ranged, test, predicate, sum, after, Change}
use Rattle.wat_expressions.specs.Applied.{read_applied, read_ranged}

pub first_column : first_kinds sql column ≡ k.Name ∷ []
unfolding column
first_column = refl

pub first_parenthesized : first_kinds sql parenthesized ≡ k.Open ∷ []
unfolding parenthesized
first_parenthesized = refl

pub first_count : first_kinds sql count ≡ k.Count ∷ []
unfolding count
first_count = refl

pub first_sum : first_kinds sql (seq sum_operator term) ≡ k.Plus ∷ k.Minus ∷ k.Concat ∷ []
unfolding sum_operator
first_sum = refl

pub first_term : first_kinds sql (seq term_operator factor) ≡ k.Star ∷ k.Slash ∷ []
unfolding term_operator
first_term = refl

pub first_conjunction : first_kinds sql (seq conjunction_operator negation) ≡ k.And ∷ []
unfolding conjunction_operator
first_conjunction = refl

pub first_expression : first_kinds sql (seq expression_operator conjunction) ≡ k.Or ∷ []
unfolding expression_operator
first_expression = refl

pub first_compared : first_kinds sql compared ≡ k.Equal ∷ k.Unequal ∷ k.Less ∷ k.AtMost ∷ k.Greater ∷ k.AtLeast ∷ []
unfolding compared comparison
first_compared = refl

pub first_is_null : first_kinds sql is_null ≡ k.Is ∷ []
unfolding is_null
first_is_null = refl

pub first_between : first_kinds sql between ≡ k.Between ∷ []
unfolding between
first_between = refl

pub first_ranged : (negated : Bool) → first_kinds sql (ranged negated) ≡ k.Between ∷ k.In ∷ []
unfolding ranged between among
first_ranged negated = refl

abbrev at_arg : Expr → Outcome Lexeme Change → Outcome Lexeme Expr
at_arg arg o = o >>= (λ f us. Ok (f arg, us))

last_applied : (arg : Expr) (o : Outcome Lexeme (Unit {0})) (q : List Lexeme → Outcome Lexeme Change)
    → at_arg arg (o >>= (λ _ us. q us >>= (λ b vs. Ok (b, vs)))) ≡ (o >>= (λ _ us. at_arg arg (q us)))
last_applied arg (Ok p) q = bind_assoc (q p.1) _ _
last_applied arg (Err r) q = refl

after_applied : (levels : ℕ) (word : Kind) (p : Sql Change) (arg : Expr) (ts : List Lexeme) → read_applied levels (after word p) arg ts
    ≡ (read_token sql word (λ _. Some (tt {0})) ts >>= (λ _ us. read_applied levels p arg us))
after_applied levels word p arg ts = ap (at_arg arg) (pair_bind (read_token sql word (λ _. Some (tt {0})) ts) (read_within sql levels p) (λ x. x.1))
    ∙ last_applied arg (read_token sql word (λ _. Some (tt {0})) ts) (read_within sql levels p)

four_ways : (arg : Expr) (a b c d : Bool) (o p q r s : Outcome Lexeme Change) → at_arg arg (if a then o else (if b then p else (if c then q else (if d then r else s))))
    ≡ (if a then at_arg arg o else (if b then at_arg arg p else (if c then at_arg arg q else (if d then at_arg arg r else at_arg arg s))))
four_ways arg true b c d o p q r s = refl
four_ways arg false true c d o p q r s = refl
four_ways arg false false true d o p q r s = refl
four_ways arg false false false true o p q r s = refl
four_ways arg false false false false o p q r s = refl

firsts : (let z : List Kind × List Kind × List Kind = (first_kinds sql compared, first_kinds sql is_null, first_kinds sql (ranged false)) in z)
    ≡ (k.Equal ∷ k.Unequal ∷ k.Less ∷ k.AtMost ∷ k.Greater ∷ k.AtLeast ∷ [], k.Is ∷ [], k.Between ∷ k.In ∷ [])
unfolding compared comparison is_null ranged between among
firsts = refl

pub predicate_is : (levels : ℕ) (ts : List Lexeme) → read_within sql levels predicate ts ≡ (read_within sql levels sum ts >>= (λ a us. read_applied levels test a us))
unfolding predicate
predicate_is levels ts = pair_bind (read_within sql levels sum ts) (read_within sql levels test) (λ x. x.1 x.0)

module _ (levels : ℕ) (arg : Expr) (ts : List Lexeme) where
  pub ranged_is : (negated : Bool) → read_applied levels (ranged negated) arg ts
      ≡ (if sees sql (k.Between ∷ []) ts then read_ranged levels between negated arg ts else read_ranged levels among negated arg ts)
  unfolding ranged
  ranged_is negated =
      ap (λ (l : List _). (if sees sql l ts then read_within sql levels between ts else read_within sql levels among ts) >>= (λ f us. Ok (f negated, us)) >>= (λ f us. Ok (f arg, us))) first_between
      ∙ split (sees sql (k.Between ∷ []) ts)
    where
      split : (b : Bool) → ((if b then read_within sql levels between ts else read_within sql levels among ts) >>= (λ f us. Ok (f negated, us)) >>= (λ f us. Ok (f arg, us)))
          ≡ (if b then read_ranged levels between negated arg ts else read_ranged levels among negated arg ts)
      split true = bind_assoc (read_within sql levels between ts) _ _
      split false = bind_assoc (read_within sql levels among ts) _ _

  pub test_is : read_applied levels test arg ts
      ≡ (if sees sql (k.Equal ∷ k.Unequal ∷ k.Less ∷ k.AtMost ∷ k.Greater ∷ k.AtLeast ∷ []) ts then read_applied levels compared arg ts
      else (if sees sql (k.Is ∷ []) ts then read_applied levels is_null arg ts
      else (if sees sql (k.Not ∷ []) ts then read_token sql k.Not (λ _. Some (tt {0})) ts >>= (λ _ us. read_applied levels (ranged true) arg us)
      else (if sees sql (k.Between ∷ k.In ∷ []) ts then read_applied levels (ranged false) arg ts else Ok (arg, ts)))))
  unfolding test
  test_is =
      ap (λ (ls : List Kind × List Kind × List Kind). at_arg arg (if sees sql ls.0 ts then read_within sql levels compared ts
      else (if sees sql ls.1 ts then read_within sql levels is_null ts
      else (if sees sql (k.Not ∷ []) ts then read_within sql levels (after k.Not (ranged true)) ts
      else (if sees sql ls.2 ts then read_within sql levels (ranged false) ts else Ok (λ a. a, ts)))))) firsts
      ∙ four_ways arg (sees sql (k.Equal ∷ k.Unequal ∷ k.Less ∷ k.AtMost ∷ k.Greater ∷ k.AtLeast ∷ []) ts) (sees sql (k.Is ∷ []) ts) (sees sql (k.Not ∷ []) ts) (sees sql (k.Between ∷ k.In ∷ []) ts) _ _ _ _ _
      ∙ ap (λ o. if sees sql (k.Equal ∷ k.Unequal ∷ k.Less ∷ k.AtMost ∷ k.Greater ∷ k.AtLeast ∷ []) ts then read_applied levels compared arg ts
      else (if sees sql (k.Is ∷ []) ts then read_applied levels is_null arg ts
      else (if sees sql (k.Not ∷ []) ts then o
      else (if sees sql (k.Between ∷ k.In ∷ []) ts then read_applied levels (ranged false) arg ts else Ok (arg, ts)))))
      (after_applied levels k.Not (ranged true) arg ts)
