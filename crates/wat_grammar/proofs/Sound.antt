-- What is read was derived.
use Rattle.std.proofs.Common.{◌≡◌, ◌==◌, ℕ, zero, suc, true, List, [], ◌∷◌, ◌++◌, length, Option, Some, None, Ok, inl, inr, refl, sym, ◌∙◌, ap, subst}
use Rattle.wat_grammar.specs.Phrase.{Phrase, token, empty, seq, or, many, map, level, nested, Grammar, Repeats, Derives, Outcome, gives, sees, first_kinds, read_token, read_many, read}
use Rattle.wat_grammar.proofs.Outcomes.{chosen, bind_ok, ok_parts, rest_of}

-- some of the tokens are derived, and the rest is left
abbrev pub Takes : {X A : Type 0} → (List X → A → Type 0) → List X → A → List X → Type 0
Takes {X} P ts a r = (us : List X) × (ts ≡ us ++ r) × P us a

gives_ok : {X A : Type 0} (x : X) (ts : List X) (o : Option A) (a : A) (r : List X) → gives x ts o ≡ Ok (a, r) → (o ≡ Some a) × (ts ≡ r)
gives_ok x ts (Some a') a r e = let p = ok_parts a' a ts r e in (ap Some p.0, p.1)
gives_ok x ts None a r e = cc

module _ {K X N E : Type 0} (g : Grammar K X N E) (same_true : (a b : K) → g.same a b ≡ true → a ≡ b) where
  token_sound : {A : Type 0} (k : K) (f : X → Option A) (ts : List X) (a : A) (r : List X) → read_token g k f ts ≡ Ok (a, r)
      → Takes (λ us a. (x : X) × (us ≡ x ∷ []) × (g.kind x ≡ k) × (f x ≡ Some a)) ts a r
  token_sound k f [] a r e = cc
  token_sound k f (x ∷ ts) a r e = elim (chosen (g.same (g.kind x) k) _ _ _ e) [
    | inl h ↦ (let o = gives_ok x ts (f x) a r h.1 in (x ∷ [], ap (λ vs. x ∷ vs) o.1, (x, refl, same_true _ _ h.0, o.0)))
    | inr h ↦ cc h.1
  ]

many_sound : {K X N E A : Type 0} (g : Grammar K X N E) (ks : List K) (p : List X → Outcome X A) (P : List X → A → Type 0)
    → ((ts : List X) (a : A) (r : List X) → p ts ≡ Ok (a, r) → Takes P ts a r)
    → (n : ℕ) (ts : List X) (xs : List A) (r : List X) → read_many g ks p n ts ≡ Ok (xs, r) → Takes (Repeats P) ts xs r
many_sound g ks p P h zero ts xs r e = let d = ok_parts _ _ _ _ e in ([], d.1, subst (Repeats P []) d.0 refl)
many_sound g ks p P h (suc n) ts xs r e = elim (chosen (sees g ks ts) _ _ _ e) [
  | inl c ↦ (
      let o = bind_ok (p ts) _ _ c.1 in
      let second = bind_ok (read_many g ks p n o.1) _ _ o.3 in
      let t = h ts o.0 o.1 o.2 in
      let behind = many_sound g ks p P h n o.1 second.0 second.1 second.2 in
      let d = ok_parts _ _ _ _ second.3 in
      (t.0 ++ behind.0, rest_of ts t.0 o.1 behind.0 second.1 r t.1 behind.1 d.1, subst (Repeats P (t.0 ++ behind.0)) d.0 (t.0, behind.0, refl, t.2, behind.2)))
  | inr c ↦ (let d = ok_parts _ _ _ _ c.1 in ([], d.1, subst (Repeats P []) d.0 refl))
]

module _ {K X N E : Type 0} (g : Grammar K X N E) (same_true : (a b : K) → g.same a b ≡ true → a ≡ b) (levels : ℕ)
    (inside : N → List X → Outcome X E) (Inside : N → List X → E → Type 0)
    (sound_inside : (n : N) (ts : List X) (e : E) (r : List X) → inside n ts ≡ Ok (e, r) → Takes (Inside n) ts e r) where
  pub sound : {A : Type 0} (p : Phrase K X N E A) (ts : List X) (a : A) (r : List X) → read g levels inside p ts ≡ Ok (a, r)
      → Takes (Derives g levels Inside p) ts a r
  sound (token k f) ts a r e = token_sound g same_true k f ts a r e
  sound (empty b) ts a r e = let d = ok_parts _ _ _ _ e in ([], d.1, (refl, sym d.0))
  sound (seq p q) ts a r e =
      let o = bind_ok (read g levels inside p ts) _ _ e in
      let second = bind_ok (read g levels inside q o.1) _ _ o.3 in
      let t = sound p ts o.0 o.1 o.2 in
      let behind = sound q o.1 second.0 second.1 second.2 in
      let d = ok_parts _ _ _ _ second.3 in (
        t.0 ++ behind.0,
        rest_of ts t.0 o.1 behind.0 second.1 r t.1 behind.1 d.1,
        subst (Derives g levels Inside (seq p q) (t.0 ++ behind.0)) d.0 (t.0, behind.0, refl, t.2, behind.2),
      )
  sound (or p q) ts a r e = elim (chosen (sees g (first_kinds g p) ts) _ _ _ e) [
    | inl c ↦ (let t = sound p ts a r c.1 in (t.0, t.1, inl t.2))
    | inr c ↦ (let t = sound q ts a r c.1 in (t.0, t.1, inr t.2))
  ]
  sound (many p) ts a r e = many_sound g (first_kinds g p) (read g levels inside p) (Derives g levels Inside p) (sound p) (length ts) ts a r e
  sound (map f p) ts a r e =
      let o = bind_ok (read g levels inside p ts) _ _ e in
      let t = sound p ts o.0 o.1 o.2 in
      let d = ok_parts _ _ _ _ o.3 in
      (t.0, t.1 ∙ ap (λ vs. t.0 ++ vs) d.1, (o.0, t.2, sym d.0))
  sound (level p) ts a r e = elim (chosen (levels == 0) _ _ _ e) [
    | inl c ↦ cc c.1
    | inr c ↦ (let t = sound p ts a r c.1 in (t.0, t.1, (c.0, t.2)))
  ]
  sound (nested n) ts a r e = sound_inside n ts a r e
