-- A phrase that is read any number of times, turn by turn.
use Rattle.std.proofs.Common.{◌≡◌, ℕ, zero, suc, ◌+◌, ◌-◌, ◌<◌, ◌≤◌, true, false, List, [], ◌∷◌, fold, Ok, Err, refl, sym, ◌∙◌, ap, arith}
use Rattle.wat_grammar.specs.Phrase.{Outcome, ◌>>=◌, first_kinds, sees, read_many, read_within}
use Rattle.wat_grammar.proofs.Outcomes.{take_true, take_false, bind_of, bind_err_of}
use Rattle.wat_syntax.specs.declared.kind.Kind.{Kind}
use Rattle.wat_syntax.specs.Lexeme.{Lexeme}
use Rattle.wat_syntax.specs.Sql.{Sql, sql}

-- what a state becomes by what is read
abbrev pub folded : {A S : Type 0} → (S → A → S) → S → Outcome Lexeme (List A) → Outcome Lexeme S
folded step state o = o >>= (λ xs us. Ok (fold step state xs, us))

abbrev pub turns : {A : Type 0} → ℕ → Sql A → ℕ → List Lexeme → Outcome Lexeme (List A)
turns levels p n ts = read_many sql (first_kinds sql p) (read_within sql levels p) n ts

module _ {A : Type 0} (levels : ℕ) (p : Sql A) (ks : List Kind) (starts : first_kinds sql p ≡ ks) (ts : List Lexeme) where
  -- the next turn
  pub turn : (n at : ℕ) → at < n → sees sql ks ts ≡ true
      → turns levels p (n - at) ts ≡ (read_within sql levels p ts >>= (λ a us. turns levels p (n - (at + 1)) us >>= (λ xs vs. Ok (a ∷ xs, vs))))
  turn n at below go =
      let more : n - at ≡ suc (n - (at + 1)) = omega arith in
      ap (λ (m : ℕ). turns levels p m ts) more ∙ take_true (sees sql (first_kinds sql p) ts) _ _ _ (ap (λ (l : List Kind). sees sql l ts) starts ∙ go) refl

module _ {A S : Type 0} (step : S → A → S) (levels : ℕ) (p : Sql A) (ks : List Kind) (starts : first_kinds sql p ≡ ks) (state : S) (ts : List Lexeme) where
  pub stops : (n : ℕ) → sees sql ks ts ≡ false → folded step state (turns levels p n ts) ≡ Ok (state, ts)
  stops zero s = refl
  stops (suc n) s = bind_of (turns levels p (suc n) ts) _ [] ts _ (take_false (sees sql (first_kinds sql p) ts) _ _ _ (ap (λ (l : List Kind). sees sql l ts) starts ∙ s) refl) refl

  pub ends : (n at : ℕ) → n ≤ at → folded step state (turns levels p (n - at) ts) ≡ Ok (state, ts)
  ends n at h = let none : n - at ≡ 0 = omega arith in ap (λ (m : ℕ). folded step state (turns levels p m ts)) none

  module _ (n at : ℕ) (below : at < n) (go : sees sql ks ts ≡ true) where
    next : turns levels p (n - at) ts ≡ (read_within sql levels p ts >>= (λ a us. turns levels p (n - (at + 1)) us >>= (λ xs vs. Ok (a ∷ xs, vs))))
    next = turn levels p ks starts ts n at below go

    pub fails : (us : List Lexeme) → read_within sql levels p ts ≡ Err us → folded step state (turns levels p (n - at) ts) ≡ Err us
    fails us h = bind_err_of (turns levels p (n - at) ts) _ us (next ∙ bind_err_of (read_within sql levels p ts) _ us h)

    pub goes_on : (a : A) (us : List Lexeme) → read_within sql levels p ts ≡ Ok (a, us)
        → folded step (step state a) (turns levels p (n - (at + 1)) us) ≡ folded step state (turns levels p (n - at) ts)
    goes_on a us h = sym (ap (λ y. folded step state y) (next ∙ bind_of (read_within sql levels p ts) _ a us _ h refl) ∙ moved (turns levels p (n - (at + 1)) us))
      where
        moved : (y : Outcome Lexeme (List A)) → folded step state (y >>= (λ xs ws. Ok (a ∷ xs, ws))) ≡ folded step (step state a) y
        moved (Ok q) = refl
        moved (Err r) = refl
