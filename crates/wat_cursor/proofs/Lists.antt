-- A list with commas between, read turn by turn.
use Rattle.std.proofs.Common.{◌≡◌, ℕ, zero, suc, ◌+◌, ◌-◌, ◌<◌, ◌≤◌, Bool, true, false, List, [], ◌∷◌, ◌++◌, Some, ◌||◌, length, Ok, Err, refl, sym, ◌∙◌, ap, arith, append_assoc}
use Rattle.std.proofs.lemmas.List.{append-nil}
use Rattle.wat_grammar.specs.Phrase.{Outcome, ◌>>=◌, sees, read_token, read_within}
use Rattle.wat_grammar.proofs.Outcomes.{take_true, take_false, bind_of, bind_err_of, pair_bind}
use Rattle.wat_syntax.specs.declared.kind.Kind.TheVariants as k
use Rattle.wat_syntax.specs.Lexeme.{Lexeme}
use Rattle.wat_syntax.specs.Sql.{Sql, sql, after, list}
use Rattle.wat_cursor.specs.Reading.{rest_of}
use Rattle.wat_cursor.proofs.Turns.{turns, turn}

abbrev pub with_front : {A : Type 0} → List A → Outcome Lexeme (List A) → Outcome Lexeme (List A)
with_front front o = o >>= (λ xs us. Ok (front ++ xs, us))

-- the list that begins so, with so many turns left
abbrev pub listed : {A : Type 0} → List A → ℕ → Sql A → ℕ → List Lexeme → Outcome Lexeme (List A)
listed front levels p n ts = with_front front (turns levels (after k.Comma p) n ts)

pub comma_taken : (ts : List Lexeme) → sees sql (k.Comma ∷ []) ts ≡ true → read_token sql k.Comma (λ _. Some (tt {0})) ts ≡ Ok (tt {0}, rest_of ts)
comma_taken [] s = cc
comma_taken (x ∷ ts) s = take_true (sql.same (sql.kind x) k.Comma) _ _ _ (or_none _ s) refl
  where
    or_none : (b : Bool) → (b || false) ≡ true → b ≡ true
    or_none true e = refl
    or_none false e = cc

module _ {A : Type 0} (levels : ℕ) (p : Sql A) where
  pub begins : (a : A) (us : List Lexeme) (ts : List Lexeme) → read_within sql levels p ts ≡ Ok (a, us) → listed (a ∷ []) levels p (length us) us ≡ read_within sql levels (list p) ts
  begins a us ts h = sym (pair_bind (read_within sql levels p ts) (λ vs. turns levels (after k.Comma p) (length vs) vs) (λ x. x.0 ∷ x.1)
      ∙ bind_of (read_within sql levels p ts) _ a us _ h refl)

  module _ (front : List A) (ts : List Lexeme) where
    pub stops : (n : ℕ) → sees sql (k.Comma ∷ []) ts ≡ false → listed front levels p n ts ≡ Ok (front, ts)
    stops zero s = ap (λ (l : List A). Ok (l, ts)) (append-nil front)
    stops (suc n) s = bind_of (turns levels (after k.Comma p) (suc n) ts) _ [] ts _ (take_false (sees sql (k.Comma ∷ []) ts) _ _ _ s refl) (ap (λ (l : List A). Ok (l, ts)) (append-nil front))

    pub ends : (n at : ℕ) → n ≤ at → listed front levels p (n - at) ts ≡ Ok (front, ts)
    ends n at h = let none : n - at ≡ 0 = omega arith in ap (λ (m : ℕ). listed front levels p m ts) none ∙ ap (λ (l : List A). Ok (l, ts)) (append-nil front)

    module _ (n at : ℕ) (below : at < n) (go : sees sql (k.Comma ∷ []) ts ≡ true) where
      next : turns levels (after k.Comma p) (n - at) ts ≡ (read_within sql levels (after k.Comma p) ts >>= (λ a us. turns levels (after k.Comma p) (n - (at + 1)) us >>= (λ xs vs. Ok (a ∷ xs, vs))))
      next = turn levels (after k.Comma p) (k.Comma ∷ []) refl ts n at below go

      pub no_item : (us : List Lexeme) → read_within sql levels p (rest_of ts) ≡ Err us → listed front levels p (n - at) ts ≡ Err us
      no_item us h =
          let none : read_within sql levels (after k.Comma p) ts ≡ Err us =
          pair_bind (read_token sql k.Comma (λ _. Some (tt {0})) ts) (read_within sql levels p) (λ x. x.1)
          ∙ bind_of (read_token sql k.Comma (λ _. Some (tt {0})) ts) _ (tt {0}) (rest_of ts) _ (comma_taken ts go) (bind_err_of (read_within sql levels p (rest_of ts)) _ us h) in
          bind_err_of (turns levels (after k.Comma p) (n - at) ts) _ us (next ∙ bind_err_of (read_within sql levels (after k.Comma p) ts) _ us none)

      pub goes_on : (a : A) (us : List Lexeme) → read_within sql levels p (rest_of ts) ≡ Ok (a, us)
          → listed (front ++ a ∷ []) levels p (n - (at + 1)) us ≡ listed front levels p (n - at) ts
      goes_on a us h =
          let one : read_within sql levels (after k.Comma p) ts ≡ Ok (a, us) =
          pair_bind (read_token sql k.Comma (λ _. Some (tt {0})) ts) (read_within sql levels p) (λ x. x.1)
          ∙ bind_of (read_token sql k.Comma (λ _. Some (tt {0})) ts) _ (tt {0}) (rest_of ts) _ (comma_taken ts go) (bind_of (read_within sql levels p (rest_of ts)) _ a us _ h refl) in
          sym (ap (with_front front) (next ∙ bind_of (read_within sql levels (after k.Comma p) ts) _ a us _ one refl) ∙ moved (turns levels (after k.Comma p) (n - (at + 1)) us))
        where
          moved : (y : Outcome Lexeme (List A)) → with_front front (y >>= (λ xs ws. Ok (a ∷ xs, ws))) ≡ with_front (front ++ a ∷ []) y
          moved (Ok q) = ap (λ (l : List A). Ok (l, q.1)) (sym (append_assoc front (a ∷ []) q.0))
          moved (Err r) = refl
