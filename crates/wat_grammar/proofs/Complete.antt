-- What is derived is read, where the next token doesn't go on with it.
use Rattle.std.proofs.Common.{◌≡◌, ◌==◌, ℕ, zero, suc, ◌≤◌, ◌<◌, Bool, true, false, ◌&&◌, ◌||◌, not, if◌then◌else◌, List, [], ◌∷◌, ◌++◌, length, Ok, ◌⊎◌, inl, inr, refl, sym, ◌∙◌, ap, subst, append_assoc, arith, length-append}
use Rattle.wat_grammar.specs.Phrase.{Phrase, token, empty, seq, or, many, map, level, nested, Grammar, Repeats, Derives, Outcome, gives, sees, can_be_empty, first_kinds, read_token, read_many, read}
use Rattle.wat_grammar.specs.Predictive.{more, are_apart, is_predictive}
use Rattle.wat_grammar.proofs.Outcomes.{and_true, not_true, take_true, take_false, bind_of}
use Rattle.wat_grammar.proofs.Choice.{sees_left, sees_right, sees_neither, sees_front, sees_apart}

-- there is no token, which the test allows, or the first is one of these
abbrev pub BeginsBy : {K X N E : Type 0} → Grammar K X N E → Bool → List K → List X → Type 0
BeginsBy g b ks ts = ((ts ≡ []) × (b ≡ true)) ⊎ (sees g ks ts ≡ true)

module _ {K X N E : Type 0} (g : Grammar K X N E) where
  begins_seq : (b c : Bool) (ks ls : List K) (us vs : List X) → BeginsBy g b ks us → BeginsBy g c ls vs
      → BeginsBy g (b && c) (if b then ks ++ ls else ks) (us ++ vs)
  begins_seq true c ks ls us vs (inl p) (inl q) = inl (ap (λ z. z ++ vs) p.0 ∙ q.0, q.1)
  begins_seq true c ks ls us vs (inl p) (inr s) = inr (ap (λ z. sees g (ks ++ ls) (z ++ vs)) p.0 ∙ sees_right g ks ls vs s)
  begins_seq false c ks ls us vs (inl p) q = cc p.1
  begins_seq true c ks ls us vs (inr s) q = inr (sees_left g ks ls (us ++ vs) (sees_front g ks us vs s))
  begins_seq false c ks ls us vs (inr s) q = inr (sees_front g ks us vs s)

  begins_many : {A : Type 0} (b : Bool) (ks : List K) (P : List X → A → Type 0) → ((ts : List X) (a : A) → P ts a → BeginsBy g b ks ts)
      → (ts : List X) (xs : List A) → Repeats P ts xs → BeginsBy g true ks ts
  begins_many b ks P h ts [] d = inl (d, refl)
  begins_many b ks P h ts (x ∷ xs) d = elim (h d.0 x d.3) [
    | inl p ↦ (let e : ts ≡ d.1 = d.2 ∙ ap (λ z. z ++ d.1) p.0 in subst (BeginsBy g true ks) (sym e) (begins_many b ks P h d.1 xs d.4))
    | inr s ↦ inr (ap (sees g ks) d.2 ∙ sees_front g ks d.0 d.1 s)
  ]

  pub must_begin : (b : Bool) (ks : List K) (ts : List X) → not b ≡ true → BeginsBy g b ks ts → sees g ks ts ≡ true
  must_begin b ks ts n (inl p) = let e : b ≡ false = not_true b n in let e' : b ≡ true = p.1 in cc
  must_begin b ks ts n (inr s) = s

module _ {K X N E : Type 0} (g : Grammar K X N E) (same_refl : (a : K) → g.same a a ≡ true) (levels : ℕ) (Inside : N → List X → E → Type 0)
    (begins_inside : (n : N) (ts : List X) (e : E) → Inside n ts e → sees g (g.entry n) ts ≡ true) where
  pub begins : {A : Type 0} (p : Phrase K X N E A) (ts : List X) (a : A) → Derives g levels Inside p ts a → BeginsBy g (can_be_empty p) (first_kinds g p) ts
  begins (token k f) ts a d = inr (ap (sees g (k ∷ [])) d.1 ∙ (ap (λ j. g.same j k || false) d.2 ∙ ap (λ b. b || false) (same_refl k)))
  begins (empty b) ts a d = inl (d.0, refl)
  begins (seq p q) ts a d = subst (BeginsBy g (can_be_empty (seq p q)) (first_kinds g (seq p q))) (sym d.2)
      (begins_seq g (can_be_empty p) (can_be_empty q) (first_kinds g p) (first_kinds g q) d.0 d.1 (begins p d.0 a.0 d.3) (begins q d.1 a.1 d.4))
  begins (or p q) ts a (inl d) = elim (begins p ts a d) [
    | inl h ↦ inl (h.0, ap (λ b. b || can_be_empty q) h.1)
    | inr s ↦ inr (sees_left g (first_kinds g p) (first_kinds g q) ts s)
  ]
  begins (or p q) ts a (inr d) = elim (begins q ts a d) [
    | inl h ↦ inl (h.0, ap (λ b. can_be_empty p || b) h.1 ∙ any_true (can_be_empty p))
    | inr s ↦ inr (sees_right g (first_kinds g p) (first_kinds g q) ts s)
  ]
    where
      any_true : (b : Bool) → (b || true) ≡ true
      any_true true = refl
      any_true false = refl
  begins (many p) ts xs d = begins_many g (can_be_empty p) (first_kinds g p) (Derives g levels Inside p) (begins p) ts xs d
  begins (map f p) ts a d = begins p ts d.0 d.1
  begins (level p) ts a d = begins p ts a d.1
  begins (nested n) ts e d = inr (begins_inside n ts e d)

-- the next token doesn't go on with the first phrase, since the second begins otherwise, or is empty
quiet : {K X N E : Type 0} (g : Grammar K X N E) (same_true : (a b : K) → g.same a b ≡ true → a ≡ b) (b : Bool) (ms ks ls : List K) (vs r : List X)
    → are_apart g ms ks ≡ true → BeginsBy g b ks vs → (b ≡ true → sees g ms r ≡ false) → sees g ms (vs ++ r) ≡ false
quiet g same_true b ms ks ls vs r a (inl p) h = ap (λ z. sees g ms (z ++ r)) p.0 ∙ h p.1
quiet g same_true b ms ks ls vs r a (inr s) h = sees_apart g same_true ms ks (vs ++ r) a (sees_front g ks vs r s)

no_shorter : {X : Type 0} (us vs r : List X) (n : ℕ) → length (us ++ (vs ++ r)) ≤ suc n → 0 < length us → length (vs ++ r) ≤ n
no_shorter {X} us vs r n h k = omega (arith, length-append us (vs ++ r))

pub some_token : {K X N E : Type 0} (g : Grammar K X N E) (ks : List K) (us : List X) → sees g ks us ≡ true → 0 < length us
some_token g ks [] s = cc
some_token g ks (x ∷ us) s = omega arith

module _ {K X N E A : Type 0} (g : Grammar K X N E) (same_true : (a b : K) → g.same a b ≡ true → a ≡ b) (b : Bool) (ks ms : List K)
    (P : List X → A → Type 0) (p : List X → Outcome X A)
    (begins_part : (ts : List X) (a : A) → P ts a → BeginsBy g b ks ts)
    (complete_part : (us : List X) (a : A) (r : List X) → P us a → sees g ms r ≡ false → p (us ++ r) ≡ Ok (a, r))
    (not_empty : not b ≡ true) (apart : are_apart g ms ks ≡ true) where
  many_complete : (n : ℕ) (xs : List A) (us r : List X) → Repeats P us xs → sees g (ks ++ ms) r ≡ false → length (us ++ r) ≤ n
      → read_many g ks p n (us ++ r) ≡ Ok (xs, r)
  many_complete zero [] us r d s h = ap (λ z. Ok ([], z ++ r)) d
  many_complete (suc n) [] us r d s h = take_false (sees g ks (us ++ r)) _ _ _ (ap (λ z. sees g ks (z ++ r)) d ∙ (sees_neither g ks ms r s).0) (ap (λ z. Ok ([], z ++ r)) d)
  many_complete zero (x ∷ xs) us r d s h =
      let some : 0 < length d.0 = some_token g ks d.0 (must_begin g b ks d.0 not_empty (begins_part d.0 x d.3)) in
      let long : length us ≡ length (d.0 ++ d.1) = ap length d.2 in
      absurd (omega (arith, length-append us r, length-append d.0 d.1))
  many_complete (suc n) (x ∷ xs) us r d s h =
      let start : sees g ks d.0 ≡ true = must_begin g b ks d.0 not_empty (begins_part d.0 x d.3) in
      let same : us ++ r ≡ d.0 ++ (d.1 ++ r) = ap (λ z. z ++ r) d.2 ∙ append_assoc d.0 d.1 r in
      let inner : sees g ms (d.1 ++ r) ≡ false = quiet g same_true true ms ks ks d.1 r apart (begins_many g b ks P begins_part d.1 xs d.4) (λ _. (sees_neither g ks ms r s).1) in
      let short : length (d.1 ++ r) ≤ n = no_shorter d.0 d.1 r n (subst (λ (z : List X). length z ≤ suc n) same h) (some_token g ks d.0 start) in
      ap (read_many g ks p (suc n)) same
      ∙ take_true (sees g ks (d.0 ++ (d.1 ++ r))) _ _ _ (sees_front g ks d.0 (d.1 ++ r) start)
      (bind_of (p (d.0 ++ (d.1 ++ r))) _ x (d.1 ++ r) _ (complete_part d.0 x (d.1 ++ r) d.3 inner)
      (bind_of (read_many g ks p n (d.1 ++ r)) _ xs r _ (many_complete n xs d.1 r d.4 s short) refl))

module _ {K X N E : Type 0} (g : Grammar K X N E) (example : K → X) (same_true : (a b : K) → g.same a b ≡ true → a ≡ b) (same_refl : (a : K) → g.same a a ≡ true)
    (levels : ℕ) (inside : N → List X → Outcome X E) (Inside : N → List X → E → Type 0)
    (begins_inside : (n : N) (ts : List X) (e : E) → Inside n ts e → sees g (g.entry n) ts ≡ true)
    (complete_inside : (n : N) (us : List X) (e : E) (r : List X) → Inside n us e → sees g (g.exit n) r ≡ false → inside n (us ++ r) ≡ Ok (e, r)) where
  more_second : (b : Bool) (ks ls : List K) (r : List X) → sees g (if b then ks ++ ls else ls) r ≡ false → sees g ls r ≡ false
  more_second true ks ls r s = (sees_neither g ks ls r s).1
  more_second false ks ls r s = s

  more_first : (b : Bool) (ks ls : List K) (r : List X) → sees g (if b then ks ++ ls else ls) r ≡ false → b ≡ true → sees g ks r ≡ false
  more_first true ks ls r s e = (sees_neither g ks ls r s).0
  more_first false ks ls r s e = cc e

  pub complete : {A : Type 0} (deep : Bool) (p : Phrase K X N E A) → is_predictive g example deep p ≡ true → (us : List X) (a : A) (r : List X)
      → Derives g levels Inside p us a → sees g (more g p) r ≡ false → read g levels inside p (us ++ r) ≡ Ok (a, r)
  complete deep (token k f) v us a r d s =
      ap (λ z. read_token g k f (z ++ r)) d.1
      ∙ take_true (g.same (g.kind d.0) k) _ _ _ (ap (λ j. g.same j k) d.2 ∙ same_refl k) (ap (gives d.0 r) d.3)
  complete deep (empty b) v us a r d s = ap (λ z. Ok (b, z ++ r)) d.0 ∙ ap (λ c. Ok (c, r)) (sym d.1)
  complete deep (seq p q) v us a r d s =
      let v1 = and_true (is_predictive g example deep p) _ v in
      let v2 = and_true (is_predictive g example deep q) _ v1.1 in
      let same : us ++ r ≡ d.0 ++ (d.1 ++ r) = ap (λ z. z ++ r) d.2 ∙ append_assoc d.0 d.1 r in
      let between : sees g (more g p) (d.1 ++ r) ≡ false = quiet g same_true (can_be_empty q) (more g p) (first_kinds g q) (first_kinds g q) d.1 r v2.1
      (begins g same_refl levels Inside begins_inside q d.1 a.1 d.4) (more_first (can_be_empty q) (more g p) (more g q) r s) in
      ap (read g levels inside (seq p q)) same
      ∙ bind_of (read g levels inside p (d.0 ++ (d.1 ++ r))) _ a.0 (d.1 ++ r) _ (complete deep p v1.0 d.0 a.0 (d.1 ++ r) d.3 between)
      (bind_of (read g levels inside q (d.1 ++ r)) _ a.1 r _ (complete deep q v2.0 d.1 a.1 r d.4 (more_second (can_be_empty q) (more g p) (more g q) r s)) refl)
  complete deep (or p q) v us a r (inl d) s =
      let v1 = and_true (is_predictive g example deep p) _ v in
      let v2 = and_true (is_predictive g example deep q) _ v1.1 in
      let v3 = and_true (are_apart g (first_kinds g p) (first_kinds g q)) _ v2.1 in
      let v4 = and_true (not (can_be_empty p)) _ v3.1 in
      let start : sees g (first_kinds g p) us ≡ true = must_begin g (can_be_empty p) (first_kinds g p) us v4.0 (begins g same_refl levels Inside begins_inside p us a d) in
      let none : sees g (more g p ++ more g q) r ≡ false = more_second (can_be_empty q) (first_kinds g p) (more g p ++ more g q) r s in
      take_true (sees g (first_kinds g p) (us ++ r)) _ _ _ (sees_front g (first_kinds g p) us r start) (complete deep p v1.0 us a r d (sees_neither g (more g p) (more g q) r none).0)
  complete deep (or p q) v us a r (inr d) s =
      let v1 = and_true (is_predictive g example deep p) _ v in
      let v2 = and_true (is_predictive g example deep q) _ v1.1 in
      let v3 = and_true (are_apart g (first_kinds g p) (first_kinds g q)) _ v2.1 in
      let none : sees g (more g p ++ more g q) r ≡ false = more_second (can_be_empty q) (first_kinds g p) (more g p ++ more g q) r s in
      let other : sees g (first_kinds g p) (us ++ r) ≡ false = quiet g same_true (can_be_empty q) (first_kinds g p) (first_kinds g q) (first_kinds g q) us r v3.0
      (begins g same_refl levels Inside begins_inside q us a d) (more_first (can_be_empty q) (first_kinds g p) (more g p ++ more g q) r s) in
      take_false (sees g (first_kinds g p) (us ++ r)) _ _ _ other (complete deep q v2.0 us a r d (sees_neither g (more g p) (more g q) r none).1)
  complete deep (many p) v us xs r d s =
      let v1 = and_true (is_predictive g example deep p) _ v in
      let v2 = and_true (not (can_be_empty p)) _ v1.1 in
      let v3 = and_true (are_apart g (more g p) (first_kinds g p)) _ v2.1 in
      many_complete g same_true (can_be_empty p) (first_kinds g p) (more g p) (Derives g levels Inside p) (read g levels inside p)
      (begins g same_refl levels Inside begins_inside p) (complete deep p v1.0) v2.0 v3.0 (length (us ++ r)) xs us r d s (omega arith)
  complete deep (map f p) v us a r d s = bind_of (read g levels inside p (us ++ r)) _ d.0 r _ (complete deep p v us d.0 r d.1 s) (ap (λ c. Ok (c, r)) (sym d.2))
  complete deep (level p) v us a r d s = take_false (levels == 0) _ _ _ d.0 (complete true p v us a r d.1 s)
  complete deep (nested n) v us e r d s = complete_inside n us e r d s
