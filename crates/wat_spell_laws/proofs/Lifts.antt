-- What a tighter phrase derives, a looser one does.
use Rattle.std.proofs.Common.{◌≡◌, ◌==◌, ℕ, zero, suc, ◌+◌, ◌-◌, ◌≤◌, false, List, [], ◌∷◌, ◌++◌, fold, refl, sym, ◌∙◌, ap, subst, inl, inr, append_assoc, arith}
use Rattle.std.proofs.lemmas.List.{append-nil}
use Rattle.std.proofs.lemmas.Bool.Decides.{nat_tests}
use Rattle.wat_ast.specs.declared.expression.BinaryOp.{BinaryOp}
use Rattle.wat_ast.specs.declared.expression.Expr.{Expr}
use Rattle.wat_ast.specs.declared.expression.Expr.TheVariants as e
use Rattle.wat_grammar.specs.Phrase.{DerivesWithin, Repeats}
use Rattle.wat_syntax.specs.declared.kind.Kind.TheVariants as k
use Rattle.wat_syntax.specs.Lexeme.{Lexeme}
use Rattle.wat_syntax.specs.Sql.{Sql, sql, operation, chain, expression, conjunction, negation, predicate, sum, term, factor, primary, parenthesized, test, expression_operator, conjunction_operator, sum_operator, term_operator}
use Rattle.wat_spell.specs.declared.symbol.Symbol.TheVariants as s
use Rattle.wat_spell.specs.Tokens.{Token, symbol}
use Rattle.wat_spell_laws.specs.Derived.{phrase_of, sign, lexemes_of_token, token_lexemes}

pub lexemes_append : (ts us : List Token) → token_lexemes (ts ++ us) ≡ token_lexemes ts ++ token_lexemes us
lexemes_append [] us = refl
lexemes_append (t ∷ ts) us = ap (λ (z : List Lexeme). lexemes_of_token t ++ z) (lexemes_append ts us) ∙ sym (append_assoc (lexemes_of_token t) (token_lexemes ts) (token_lexemes us))

-- an operand is a chain of no operations
pub one : (d : ℕ) (op : Sql BinaryOp) (p : Sql Expr) (ts : List Lexeme) (x : Expr) → DerivesWithin sql d p ts x → DerivesWithin sql d (chain op p) ts x
one d op p ts x h = ((x, []), (ts, [], sym (append-nil ts), h, refl), refl)

repeats_push : {X A : Type 0} (P : List X → A → Type 0) (xs : List A) (us vs : List X) (a : A) → Repeats P us xs → P vs a → Repeats P (us ++ vs) (xs ++ a ∷ [])
repeats_push P [] us vs a r h = (vs, [], ap (λ z. z ++ vs) r ∙ sym (append-nil vs), h, refl)
repeats_push P (x ∷ xs) us vs a r h = (r.0, r.1 ++ vs, ap (λ z. z ++ vs) r.2 ∙ append_assoc r.0 r.1 vs, r.3, repeats_push P xs r.1 vs a r.4 h)

operations_push : (left : Expr) (xs : List (BinaryOp × Expr)) (a : BinaryOp × Expr) → fold operation left (xs ++ a ∷ []) ≡ e.Binary a.0 (fold operation left xs) a.1
operations_push left [] a = refl
operations_push left (x ∷ xs) a = operations_push (e.Binary x.0 left x.1) xs a

-- one more operation at the end of a chain
pub and_one : (d : ℕ) (op : Sql BinaryOp) (p : Sql Expr) (us vs ws : List Lexeme) (l r : Expr) (o : BinaryOp)
    → DerivesWithin sql d (chain op p) us l → DerivesWithin sql d op vs o → DerivesWithin sql d p ws r
    → DerivesWithin sql d (chain op p) (us ++ (vs ++ ws)) (e.Binary o l r)
and_one d op p us vs ws l r o h ho hr =
    let x = h.0 in
    let c = h.1 in (
      (x.0, x.1 ++ (o, r) ∷ []),
      (
        c.0,
        c.1 ++ (vs ++ ws),
        ap (λ z. z ++ (vs ++ ws)) c.2 ∙ append_assoc c.0 c.1 (vs ++ ws),
        c.3,
        repeats_push (λ ts a. (us' : List Lexeme) × (vs' : List Lexeme) × (ts ≡ us' ++ vs') × DerivesWithin sql d op us' a.0 × DerivesWithin sql d p vs' a.1) x.1 c.1 (vs ++ ws) (o, r) c.4 (vs, ws, refl, ho, hr),
      ),
      ap (λ z. e.Binary o z r) h.2 ∙ sym (operations_push x.0 x.1 (o, r)),
    )

lift : (n d : ℕ) (ts : List Lexeme) (x : Expr) → DerivesWithin sql d (phrase_of (suc n)) ts x → DerivesWithin sql d (phrase_of n) ts x
unfolding expression conjunction negation predicate sum term factor test
lift zero d ts x h = one d expression_operator conjunction ts x h
lift (suc zero) d ts x h = one d conjunction_operator negation ts x h
lift (suc (suc zero)) d ts x h = inr h
lift (suc (suc (suc zero))) d ts x h = ((x, λ a. a), (ts, [], sym (append-nil ts), h, inr (inr (inr (inr (refl, refl))))), refl)
lift (suc (suc (suc (suc zero)))) d ts x h = one d sum_operator term ts x h
lift (suc (suc (suc (suc (suc zero))))) d ts x h = one d term_operator factor ts x h
lift (suc (suc (suc (suc (suc (suc zero)))))) d ts x h = inr h
lift (suc (suc (suc (suc (suc (suc (suc n))))))) d ts x h = h

lift_by : (m n d : ℕ) (ts : List Lexeme) (x : Expr) → DerivesWithin sql d (phrase_of (m + n)) ts x → DerivesWithin sql d (phrase_of n) ts x
lift_by zero n d ts x h = let q : 0 + n ≡ n = omega arith in subst (λ (r : ℕ). DerivesWithin sql d (phrase_of r) ts x) q h
lift_by (suc m) n d ts x h =
    let q : suc m + n ≡ suc (m + n) = omega arith in
    lift_by m n d ts x (lift (m + n) d ts x (subst (λ (r : ℕ). DerivesWithin sql d (phrase_of r) ts x) q h))

pub down_to : (high low d : ℕ) (ts : List Lexeme) (x : Expr) → low ≤ high → DerivesWithin sql d (phrase_of high) ts x → DerivesWithin sql d (phrase_of low) ts x
down_to high low d ts x b h = let q : high ≡ high - low + low = omega arith in lift_by (high - low) low d ts x (subst (λ (r : ℕ). DerivesWithin sql d (phrase_of r) ts x) q h)

pub suc_not_zero : (d : ℕ) → (suc d == 0) ≡ false
suc_not_zero d = grind (arith, nat_tests)

-- in parentheses an expression is a primary, a level deeper
pub in_parentheses : (d : ℕ) (ts : List Token) (x : Expr) → DerivesWithin sql d expression (token_lexemes ts) x
    → DerivesWithin sql (suc d) (phrase_of 7) (token_lexemes (symbol s.Open ∷ (ts ++ symbol s.Close ∷ []))) x
unfolding primary parenthesized
in_parentheses d ts x h =
    let behind : List Lexeme = token_lexemes (ts ++ symbol s.Close ∷ []) in
    inr (inr (inr (inr (inl (
      suc_not_zero d,
      (
        (tt, x),
        (
          sign k.Open ∷ [],
          behind,
          refl,
          (sign k.Open, refl, refl, refl),
          ((x, tt), (token_lexemes ts, sign k.Close ∷ [], lexemes_append ts (symbol s.Close ∷ []), h, (sign k.Close, refl, refl, refl)), refl),
        ),
        refl,
      ),
    )))))
