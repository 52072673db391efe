-- An outcome depends on no token after the first that is left.
use Rattle.std.proofs.Common.{◌≡◌, ◌==◌, ℕ, zero, suc, ◌≤◌, ◌<◌, Bool, true, false, not, cond, List, [], ◌∷◌, ◌++◌, length, Option, Some, None, Ok, Err, refl, sym, ◌∙◌, ap, subst, append_assoc, arith, length-append}
use Rattle.wat_grammar.specs.Phrase.{Phrase, token, empty, seq, or, many, map, level, nested, Grammar, Outcome, ◌>>=◌, gives, sees, can_be_empty, first_kinds, read_token, read_many, read}
use Rattle.std.proofs.lemmas.List.{append_cancel_right}
use Rattle.wat_grammar.specs.Predictive.{is_predictive}
use Rattle.wat_grammar.proofs.Outcomes.{and_true, bind_of}
use Rattle.wat_grammar.proofs.Sound.{Takes, sound}
use Rattle.wat_grammar.proofs.Complete.{begins, must_begin, some_token}

-- what is left is an end of the tokens
abbrev pub LeavesEnd : {X A : Type 0} → List X → Outcome X A → Type 0
LeavesEnd {X} ts (Ok p) = (us : List X) × (ts ≡ us ++ p.1)
LeavesEnd {X} ts (Err r) = (us : List X) × (ts ≡ us ++ r)

-- where the token x is left, the outcome is the same with other tokens after it
abbrev pub IsAlike : {X A : Type 0} → X → List X → List X → Outcome X A → Outcome X A → Type 0
IsAlike {X} x vs vs' (Ok p) o = (ws : List X) → p.1 ≡ ws ++ x ∷ vs → o ≡ Ok (p.0, ws ++ x ∷ vs')
IsAlike {X} x vs vs' (Err r) o = (ws : List X) → r ≡ ws ++ x ∷ vs → o ≡ Err (ws ++ x ∷ vs')

end_more : {X A : Type 0} (ts us ms : List X) (o : Outcome X A) → ts ≡ us ++ ms → LeavesEnd ms o → LeavesEnd ts o
end_more ts us ms (Ok q) e l = (us ++ l.0, e ∙ ap (λ z. us ++ z) l.1 ∙ sym (append_assoc us l.0 q.1))
end_more ts us ms (Err r) e l = (us ++ l.0, e ∙ ap (λ z. us ++ z) l.1 ∙ sym (append_assoc us l.0 r))

end_bind : {X A B : Type 0} (ts : List X) (o : Outcome X A) (f : A → List X → Outcome X B) → LeavesEnd ts o → ((a : A) (us : List X) → LeavesEnd us (f a us)) → LeavesEnd ts (o >>= f)
end_bind ts (Err r) f h k = h
end_bind ts (Ok p) f h k = end_more ts h.0 p.1 (f p.0 p.1) h.1 (k p.0 p.1)

end_if : {X A : Type 0} (ts : List X) (b : Bool) (o o' : Outcome X A) → LeavesEnd ts o → LeavesEnd ts o' → LeavesEnd ts (cond b o o')
end_if ts true o o' h k = h
end_if ts false o o' h k = k

-- an end of an end
inner_end : {X : Type 0} (ps ms qs ws r : List X) → ps ≡ ms ++ qs → qs ≡ ws ++ r → ps ≡ (ms ++ ws) ++ r
inner_end ps ms qs ws r e e' = e ∙ ap (λ z. ms ++ z) e' ∙ sym (append_assoc ms ws r)

module _ {X A B : Type 0} (x : X) (vs vs' : List X) where
  alike_go : (o' : Outcome X A) (f f' : A → List X → Outcome X B) (a : A) (ps : List X) (y : Outcome X B) → LeavesEnd ps y → f a ps ≡ y
      → ((ws : List X) → ps ≡ ws ++ x ∷ vs → o' ≡ Ok (a, ws ++ x ∷ vs'))
      → ((ws : List X) → ps ≡ ws ++ x ∷ vs → IsAlike x vs vs' (f a (ws ++ x ∷ vs)) (f' a (ws ++ x ∷ vs')))
      → IsAlike x vs vs' y (o' >>= f')
  alike_go o' f f' a ps (Ok q) m e h k = λ ws e'.
      let s = inner_end ps m.0 q.1 ws (x ∷ vs) m.1 e' in
      let z : f a ((m.0 ++ ws) ++ x ∷ vs) ≡ Ok q = ap (f a) (sym s) ∙ e in
      bind_of o' f' a ((m.0 ++ ws) ++ x ∷ vs') _ (h (m.0 ++ ws) s)
      ((subst (λ (y : Outcome X B). IsAlike x vs vs' y (f' a ((m.0 ++ ws) ++ x ∷ vs'))) z (k (m.0 ++ ws) s)) ws e')
  alike_go o' f f' a ps (Err r) m e h k = λ ws e'.
      let s = inner_end ps m.0 r ws (x ∷ vs) m.1 e' in
      let z : f a ((m.0 ++ ws) ++ x ∷ vs) ≡ Err r = ap (f a) (sym s) ∙ e in
      bind_of o' f' a ((m.0 ++ ws) ++ x ∷ vs') _ (h (m.0 ++ ws) s)
      ((subst (λ (y : Outcome X B). IsAlike x vs vs' y (f' a ((m.0 ++ ws) ++ x ∷ vs'))) z (k (m.0 ++ ws) s)) ws e')

  alike_bind : (o o' : Outcome X A) (f f' : A → List X → Outcome X B) → IsAlike x vs vs' o o' → ((a : A) (us : List X) → LeavesEnd us (f a us))
      → ((a : A) (ws : List X) → o ≡ Ok (a, ws ++ x ∷ vs) → o' ≡ Ok (a, ws ++ x ∷ vs') → IsAlike x vs vs' (f a (ws ++ x ∷ vs)) (f' a (ws ++ x ∷ vs')))
      → IsAlike x vs vs' (o >>= f) (o' >>= f')
  alike_bind (Err r) o' f f' h l k = λ ws e. ap (λ z. z >>= f') (h ws e)
  alike_bind (Ok p) o' f f' h l k = alike_go o' f f' p.0 p.1 (f p.0 p.1) (l p.0 p.1) refl h (λ ws s. k p.0 ws (ap (λ (z : List X). Ok (p.0, z)) s) (h ws s))

module _ {X A : Type 0} (x : X) (vs vs' : List X) where
  alike_if : (b b' : Bool) (o o' y y' : Outcome X A) → b ≡ b' → IsAlike x vs vs' o o' → IsAlike x vs vs' y y' → IsAlike x vs vs' (cond b o y) (cond b' o' y')
  alike_if true true o o' y y' e h k = h
  alike_if true false o o' y y' e h k = cc
  alike_if false true o o' y y' e h k = cc
  alike_if false false o o' y y' e h k = k

  alike_ok : (a : A) (us : List X) → IsAlike x vs vs' (Ok (a, us ++ x ∷ vs)) (Ok (a, us ++ x ∷ vs'))
  alike_ok a us = λ ws e. ap (λ (z : List X). Ok (a, z ++ x ∷ vs')) (append_cancel_right us ws (x ∷ vs) e)

  pub alike_err : (us : List X) → IsAlike {A = A} x vs vs' (Err (us ++ x ∷ vs)) (Err (us ++ x ∷ vs'))
  alike_err us = λ ws e. ap (λ (z : List X). Err (z ++ x ∷ vs')) (append_cancel_right us ws (x ∷ vs) e)

too_short : {X : Type 0} (x : X) (vs ws : List X) → vs ≡ ws ++ x ∷ vs → ⊥
too_short x vs ws e = let long : length vs ≡ length (ws ++ x ∷ vs) = ap length e in omega (arith, length-append ws (x ∷ vs))

sees_alike : {K X N E : Type 0} (g : Grammar K X N E) (x : X) (vs vs' : List X) (ks : List K) (us : List X) → sees g ks (us ++ x ∷ vs) ≡ sees g ks (us ++ x ∷ vs')
sees_alike g x vs vs' ks [] = refl
sees_alike g x vs vs' ks (y ∷ us) = refl

many_ends : {K X N E A : Type 0} (g : Grammar K X N E) (ks : List K) (p : List X → Outcome X A) → ((ts : List X) → LeavesEnd ts (p ts)) → (n : ℕ) (ts : List X) → LeavesEnd ts (read_many g ks p n ts)
many_ends g ks p h zero ts = ([], refl)
many_ends g ks p h (suc n) ts = end_if ts (sees g ks ts) _ _
    (end_bind ts (p ts) _ (h ts) (λ a us. end_bind us (read_many g ks p n us) _ (many_ends g ks p h n us) (λ xs ws. ([], refl)))) ([], refl)

module _ {X A : Type 0} (x : X) (vs vs' : List X) where
  gives_alike : (o : Option A) → IsAlike x vs vs' (gives x vs o) (gives x vs' o)
  gives_alike (Some a) = λ ws e. absurd (too_short x vs ws e)
  gives_alike None = alike_err x vs vs' []

  gives_later : (y : X) (us : List X) (o : Option A) → IsAlike x vs vs' (gives y (us ++ x ∷ vs) o) (gives y (us ++ x ∷ vs') o)
  gives_later y us (Some a) = alike_ok x vs vs' a us
  gives_later y us None = alike_err x vs vs' (y ∷ us)

module _ {K X N E A : Type 0} (g : Grammar K X N E) (x : X) (vs vs' : List X) where
  token_online : (k : K) (f : X → Option A) (us : List X) → IsAlike x vs vs' (read_token g k f (us ++ x ∷ vs)) (read_token g k f (us ++ x ∷ vs'))
  token_online k f [] = alike_if x vs vs' (g.same (g.kind x) k) _ _ _ _ _ refl (gives_alike x vs vs' (f x)) (alike_err x vs vs' [])
  token_online k f (y ∷ us) = alike_if x vs vs' (g.same (g.kind y) k) _ _ _ _ _ refl (gives_later x vs vs' y us (f y)) (alike_err x vs vs' (y ∷ us))

  many_online : (ks : List K) (p : List X → Outcome X A) → ((ts : List X) → LeavesEnd ts (p ts))
      → ((ts : List X) (a : A) (r : List X) → p ts ≡ Ok (a, r) → length r < length ts)
      → ((us : List X) → IsAlike x vs vs' (p (us ++ x ∷ vs)) (p (us ++ x ∷ vs')))
      → (n n' : ℕ) (us : List X) → length (us ++ x ∷ vs) ≤ n → length (us ++ x ∷ vs') ≤ n' → IsAlike x vs vs' (read_many g ks p n (us ++ x ∷ vs)) (read_many g ks p n' (us ++ x ∷ vs'))
  many_online ks p h s o zero n' us l l' = absurd (omega (arith, length-append us (x ∷ vs)))
  many_online ks p h s o (suc n) zero us l l' = absurd (omega (arith, length-append us (x ∷ vs')))
  many_online ks p h s o (suc n) (suc n') us l l' = alike_if x vs vs' (sees g ks (us ++ x ∷ vs)) (sees g ks (us ++ x ∷ vs')) _ _ _ _ (sees_alike g x vs vs' ks us)
      (alike_bind x vs vs' (p (us ++ x ∷ vs)) (p (us ++ x ∷ vs')) _ _ (o us)
      (λ a us. end_bind us (read_many g ks p n us) _ (many_ends g ks p h n us) (λ xs ws. ([], refl)))
      (λ a ws e e'.
      let short : length (ws ++ x ∷ vs) < length (us ++ x ∷ vs) = s _ a _ e in
      let short' : length (ws ++ x ∷ vs') < length (us ++ x ∷ vs') = s _ a _ e' in
      alike_bind x vs vs' (read_many g ks p n (ws ++ x ∷ vs)) (read_many g ks p n' (ws ++ x ∷ vs')) _ _ (many_online ks p h s o n n' ws (omega arith) (omega arith))
      (λ xs ws. ([], refl)) (λ xs ws _ _. alike_ok x vs vs' (a ∷ xs) ws)))
      (alike_ok x vs vs' [] us)

module _ {K X N E : Type 0} (g : Grammar K X N E) (levels : ℕ) (inside : N → List X → Outcome X E) (ends_inside : (n : N) (ts : List X) → LeavesEnd ts (inside n ts)) where
  gives_ends : {A : Type 0} (x : X) (ts : List X) (o : Option A) → LeavesEnd (x ∷ ts) (gives x ts o)
  gives_ends x ts (Some a) = (x ∷ [], refl)
  gives_ends x ts None = ([], refl)

  token_ends : {A : Type 0} (k : K) (f : X → Option A) (ts : List X) → LeavesEnd ts (read_token g k f ts)
  token_ends k f [] = ([], refl)
  token_ends k f (x ∷ ts) = end_if (x ∷ ts) (g.same (g.kind x) k) _ _ (gives_ends x ts (f x)) ([], refl)

  pub ends : {A : Type 0} (p : Phrase K X N E A) (ts : List X) → LeavesEnd ts (read g levels inside p ts)
  ends (token k f) ts = token_ends k f ts
  ends (empty a) ts = ([], refl)
  ends (seq p q) ts = end_bind ts (read g levels inside p ts) _ (ends p ts) (λ a us. end_bind us (read g levels inside q us) _ (ends q us) (λ b ws. ([], refl)))
  ends (or p q) ts = end_if ts (sees g (first_kinds g p) ts) _ _ (ends p ts) (ends q ts)
  ends (many p) ts = many_ends g (first_kinds g p) (read g levels inside p) (ends p) (length ts) ts
  ends (map f p) ts = end_bind ts (read g levels inside p ts) _ (ends p ts) (λ a us. ([], refl))
  ends (level p) ts = end_if ts (levels == 0) _ _ ([], refl) (ends p ts)
  ends (nested n) ts = ends_inside n ts

module _ {K X N E : Type 0} (g : Grammar K X N E) (example : K → X) (same_true : (a b : K) → g.same a b ≡ true → a ≡ b) (same_refl : (a : K) → g.same a a ≡ true)
    (levels : ℕ) (inside : N → List X → Outcome X E) (Inside : N → List X → E → Type 0)
    (begins_inside : (n : N) (ts : List X) (e : E) → Inside n ts e → sees g (g.entry n) ts ≡ true)
    (sound_inside : (n : N) (ts : List X) (e : E) (r : List X) → inside n ts ≡ Ok (e, r) → Takes (Inside n) ts e r)
    (ends_inside : (n : N) (ts : List X) → LeavesEnd ts (inside n ts)) where
  shorter : {A : Type 0} (p : Phrase K X N E A) → not (can_be_empty p) ≡ true → (ts : List X) (a : A) (r : List X) → read g levels inside p ts ≡ Ok (a, r) → length r < length ts
  shorter p v ts a r e =
      let t = sound g same_true levels inside Inside sound_inside p ts a r e in
      let some : 0 < length t.0 = some_token g (first_kinds g p) t.0 (must_begin g (can_be_empty p) (first_kinds g p) t.0 v (begins g same_refl levels Inside begins_inside p t.0 a t.2)) in
      let long : length ts ≡ length (t.0 ++ r) = ap length t.1 in
      omega (arith, length-append t.0 r)

  module _ (x : X) (vs vs' : List X) (online_inside : (n : N) (us : List X) → IsAlike x vs vs' (inside n (us ++ x ∷ vs)) (inside n (us ++ x ∷ vs'))) where
    pub online : {A : Type 0} (deep : Bool) (p : Phrase K X N E A) → is_predictive g example deep p ≡ true → (us : List X)
        → IsAlike x vs vs' (read g levels inside p (us ++ x ∷ vs)) (read g levels inside p (us ++ x ∷ vs'))
    online deep (token k f) v us = token_online g x vs vs' k f us
    online deep (empty a) v us = alike_ok x vs vs' a us
    online deep (seq p q) v us =
        let v1 = and_true (is_predictive g example deep p) _ v in
        alike_bind x vs vs' (read g levels inside p (us ++ x ∷ vs)) (read g levels inside p (us ++ x ∷ vs')) _ _ (online deep p v1.0 us)
        (λ a ws. end_bind ws (read g levels inside q ws) _ (ends g levels inside ends_inside q ws) (λ b zs. ([], refl)))
        (λ a ws _ _. alike_bind x vs vs' (read g levels inside q (ws ++ x ∷ vs)) (read g levels inside q (ws ++ x ∷ vs')) _ _ (online deep q (and_true (is_predictive g example deep q) _ v1.1).0 ws)
        (λ b zs. ([], refl)) (λ b zs _ _. alike_ok x vs vs' (a, b) zs))
    online deep (or p q) v us =
        let v1 = and_true (is_predictive g example deep p) _ v in
        alike_if x vs vs' (sees g (first_kinds g p) (us ++ x ∷ vs)) (sees g (first_kinds g p) (us ++ x ∷ vs')) _ _ _ _ (sees_alike g x vs vs' (first_kinds g p) us) (online deep p v1.0 us)
        (online deep q (and_true (is_predictive g example deep q) _ v1.1).0 us)
    online deep (many p) v us =
        let v1 = and_true (is_predictive g example deep p) _ v in
        many_online g x vs vs' (first_kinds g p) (read g levels inside p) (ends g levels inside ends_inside p) (shorter p (and_true (not (can_be_empty p)) _ v1.1).0) (online deep p v1.0)
        (length (us ++ x ∷ vs)) (length (us ++ x ∷ vs')) us (omega arith) (omega arith)
    online deep (map f p) v us = alike_bind x vs vs' (read g levels inside p (us ++ x ∷ vs)) (read g levels inside p (us ++ x ∷ vs')) _ _ (online deep p v us) (λ a ws. ([], refl)) (λ a ws _ _. alike_ok x vs vs' (f a) ws)
    online deep (level p) v us = alike_if x vs vs' (levels == 0) (levels == 0) _ _ _ _ refl (alike_err x vs vs' us) (online true p v us)
    online deep (nested n) v us = online_inside n us
