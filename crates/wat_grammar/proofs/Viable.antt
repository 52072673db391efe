-- What was read before an error can be gone on with.
use Rattle.std.proofs.Common.{◌≡◌, ◌==◌, ℕ, zero, suc, Bool, true, false, ◌&&◌, ◌||◌, not, List, [], ◌∷◌, ◌++◌, length, Option, Some, None, is_some, Ok, Err, ◌⊎◌, inl, inr, refl, sym, ◌∙◌, ap, append_assoc}
use Rattle.std.proofs.lemmas.List.{append-nil}
use Rattle.std.specs.List.{AllByRecursion}
use Rattle.wat_grammar.specs.Phrase.{Phrase, token, empty, seq, or, many, map, level, nested, Grammar, Repeats, Derives, Outcome, gives, sees, can_be_empty, first_kinds, read_token, read_many, read}
use Rattle.wat_grammar.specs.Predictive.{more, are_apart, is_predictive, is_safe, is_alive, is_level}
use Rattle.wat_grammar.proofs.Outcomes.{chosen, and_true, or_true, not_true, take_true, bind_err, bind_err_of, either}
use Rattle.wat_grammar.proofs.Sound.{Takes, sound}

-- the tokens up to those that are left can be gone on with, by tokens that some text has
abbrev pub Leads : {X A : Type 0} → (X → Type 0) → (List X → A → Type 0) → List X → List X → Type 0
Leads {X} {A} T P ts r = (us : List X) × (vs : List X) × (a : A) × (ts ≡ us ++ r) × P (us ++ vs) a × AllByRecursion T vs

pub all_append : {X : Type 0} (T : X → Type 0) (us vs : List X) → AllByRecursion T us → AllByRecursion T vs → AllByRecursion T (us ++ vs)
all_append T [] vs h k = k
all_append T (x ∷ us) vs h k = (h.0, all_append T us vs h.1 k)

err_same : {X A : Type 0} (ts r : List X) → (let o : Outcome X A = Err ts in o) ≡ Err r → ts ≡ r
err_same ts r e = cc

option_case : {A : Type 0} (o : Option A) → is_some o ≡ true → (a : A) × (o ≡ Some a)
option_case (Some a) e = (a, refl)
option_case None e = cc

gives_err : {X A : Type 0} (x : X) (ts r : List X) (o : Option A) → gives x ts o ≡ Err r → x ∷ ts ≡ r
gives_err x ts r (Some a) e = cc
gives_err x ts r None e = err_same _ _ e

token_err : {K X N E A : Type 0} (g : Grammar K X N E) (k : K) (f : X → Option A) (ts r : List X) → read_token g k f ts ≡ Err r → ts ≡ r
token_err g k f [] r e = err_same _ _ e
token_err g k f (x ∷ ts) r e = elim (chosen (g.same (g.kind x) k) _ _ _ e) [ inl c ↦ gives_err x ts r (f x) c.1 | inr c ↦ err_same _ _ c.1 ]

module _ {K X N E A : Type 0} (g : Grammar K X N E) (ks : List K) (P : List X → A → Type 0) (p : List X → Outcome X A)
    (sound_part : (ts : List X) (a : A) (r : List X) → p ts ≡ Ok (a, r) → Takes P ts a r)
    (viable_part : (ts r : List X) → p ts ≡ Err r → (ts ≡ r) ⊎ Leads g.IsToken P ts r) where
  many_viable : (n : ℕ) (ts r : List X) → read_many g ks p n ts ≡ Err r → Leads g.IsToken (Repeats P) ts r
  many_viable zero ts r e = cc
  many_viable (suc n) ts r e = elim (chosen (sees g ks ts) _ _ _ e) [
    | inl c ↦ elim (bind_err (p ts) _ r c.1) [
      | inl e' ↦ elim (viable_part ts r e') [
        | inl d ↦ ([], [], [], d, refl, tt)
        | inr l ↦ (l.0, l.1, l.2 ∷ [], l.3, (l.0 ++ l.1, [], sym (append-nil (l.0 ++ l.1)), l.4, refl), l.5)
      ]
      | inr o ↦ elim (bind_err (read_many g ks p n o.1) _ r o.3) [
        | inl e' ↦ (
            let t = sound_part ts o.0 o.1 o.2 in
            let l = many_viable n o.1 r e' in
            (t.0 ++ l.0, l.1, o.0 ∷ l.2, t.1 ∙ ap (λ z. t.0 ++ z) l.3 ∙ sym (append_assoc t.0 l.0 r), (t.0, l.0 ++ l.1, append_assoc t.0 l.0 l.1, t.2, l.4), l.5))
        | inr o' ↦ cc o'.3
      ]
    ]
    | inr c ↦ cc c.1
  ]

all_alive : {K X N E A : Type 0} (p : Phrase K X N E A) → is_alive true p ≡ true
all_alive (token k f) = refl
all_alive (empty a) = refl
all_alive (seq p q) = ap (λ b. b && is_alive true q) (all_alive p) ∙ all_alive q
all_alive (or p q) = ap (λ b. b || is_alive true q) (all_alive p)
all_alive (many p) = refl
all_alive (map f p) = all_alive p
all_alive (level p) = all_alive p
all_alive (nested n) = refl

alive_or : (a b c d : Bool) → (a ≡ true → c ≡ true) → (b ≡ true → d ≡ true) → (a || b) ≡ true → (c || d) ≡ true
alive_or true b c d h k e = ap (λ z. z || d) (h refl)
alive_or false b true d h k e = refl
alive_or false b false d h k e = k e

alive_and : (a b c d : Bool) → (a ≡ true → c ≡ true) → (b ≡ true → d ≡ true) → (a && b) ≡ true → (c && d) ≡ true
alive_and true b c d h k e = ap (λ z. z && d) (h refl) ∙ k e
alive_and false b c d h k e = cc

pub alive_any : {K X N E A : Type 0} (deep : Bool) (p : Phrase K X N E A) → is_alive false p ≡ true → is_alive deep p ≡ true
alive_any deep (token k f) e = refl
alive_any deep (empty a) e = refl
alive_any deep (seq p q) e = alive_and (is_alive false p) (is_alive false q) _ _ (alive_any deep p) (alive_any deep q) e
alive_any deep (or p q) e = alive_or (is_alive false p) (is_alive false q) _ _ (alive_any deep p) (alive_any deep q) e
alive_any deep (many p) e = refl
alive_any deep (map f p) e = alive_any deep p e
alive_any deep (level p) e = cc
alive_any deep (nested n) e = cc

module _ {K X N E : Type 0} (g : Grammar K X N E) (example : K → X) (same_true : (a b : K) → g.same a b ≡ true → a ≡ b)
    (are_tokens : (k : K) → g.IsToken (example k)) (levels : ℕ) (inside : N → List X → Outcome X E) (Inside : N → List X → E → Type 0)
    (some_inside : (n : N) → (levels == 0) ≡ false → (us : List X) × (e : E) × Inside n us e × AllByRecursion g.IsToken us)
    (sound_inside : (n : N) (ts : List X) (e : E) (r : List X) → inside n ts ≡ Ok (e, r) → Takes (Inside n) ts e r)
    (viable_inside : (n : N) (ts r : List X) → (levels == 0) ≡ false → inside n ts ≡ Err r → Leads g.IsToken (Inside n) ts r) where
  refused : {A : Type 0} (p : Phrase K X N E A) → is_level p ≡ true → (levels == 0) ≡ true → (ts : List X) → read g levels inside p ts ≡ Err ts
  refused (token k f) l z ts = cc
  refused (empty a) l z ts = cc
  refused (seq p q) l z ts = cc
  refused (or p q) l z ts = either (sees g (first_kinds g p) ts) _ _ _ (refused p (and_true (is_level p) (is_level q) l).0 z ts) (refused q (and_true (is_level p) (is_level q) l).1 z ts)
  refused (many p) l z ts = cc
  refused (map f p) l z ts = bind_err_of (read g levels inside p ts) _ ts (refused p l z ts)
  refused (level p) l z ts = take_true (levels == 0) _ _ _ z refl
  refused (nested n) l z ts = cc

  abbrev Deep : Bool → Type 0
  Deep deep = not (levels == 0) ≡ deep

  pub some : {A : Type 0} (flag deep : Bool) (p : Phrase K X N E A) → Deep deep → is_predictive g example flag p ≡ true → is_alive deep p ≡ true → (us : List X) × (a : A) × Derives g levels Inside p us a × AllByRecursion g.IsToken us
  some flag deep (token k f) h v l = let w = and_true (g.same (g.kind (example k)) k) _ v in let o = option_case (f (example k)) w.1 in
      (example k ∷ [], o.0, (example k, refl, same_true _ _ w.0, o.1), (are_tokens k, tt))
  some flag deep (empty a) h v l = ([], a, (refl, refl), tt)
  some flag deep (seq p q) h v l =
      let v1 = and_true (is_predictive g example flag p) _ v in
      let m = and_true (is_alive deep p) _ l in
      let s = some flag deep p h v1.0 m.0 in
      let t = some flag deep q h (and_true (is_predictive g example flag q) _ v1.1).0 m.1 in
      (s.0 ++ t.0, (s.1, t.1), (s.0, t.0, refl, s.2, t.2), all_append g.IsToken s.0 t.0 s.3 t.3)
  some flag deep (or p q) h v l =
      let v1 = and_true (is_predictive g example flag p) _ v in
      elim (or_true (is_alive deep p) _ l) [
        | inl m ↦ (let s = some flag deep p h v1.0 m in (s.0, s.1, inl s.2, s.3))
        | inr m ↦ (let s = some flag deep q h (and_true (is_predictive g example flag q) _ v1.1).0 m in (s.0, s.1, inr s.2, s.3))
      ]
  some flag deep (many p) h v l = ([], [], refl, tt)
  some flag deep (map f p) h v l = let s = some flag deep p h v l in (s.0, f s.1, (s.1, s.2, refl), s.3)
  some flag deep (level p) h v l = let m = and_true deep _ l in let s = some true deep p h v m.1 in (s.0, s.1, (not_true (levels == 0) (h ∙ m.0), s.2), s.3)
  some flag deep (nested n) h v l = some_inside n (not_true (levels == 0) (h ∙ l))

  -- a safe phrase derives something here, or is refused at its first token
  safe_cases : {A : Type 0} (flag deep : Bool) (p : Phrase K X N E A) → (flag ≡ true → deep ≡ true) → Deep deep → is_safe flag p ≡ true
      → (is_alive deep p ≡ true) ⊎ ((ts : List X) → read g levels inside p ts ≡ Err ts)
  safe_cases flag true p i h s = inl (all_alive p)
  safe_cases true false p i h s = cc (i refl)
  safe_cases false false p i h s = elim (or_true (is_alive false p) _ s) [ inl m ↦ inl m | inr l ↦ inr (refused p l (zero_is (levels == 0) h)) ]
    where
      zero_is : (b : Bool) → not b ≡ false → b ≡ true
      zero_is true e = refl
      zero_is false e = cc

  pub viable : {A : Type 0} (flag deep : Bool) (p : Phrase K X N E A) → (flag ≡ true → deep ≡ true) → Deep deep → is_predictive g example flag p ≡ true → is_alive deep p ≡ true
      → (ts r : List X) → read g levels inside p ts ≡ Err r → Leads g.IsToken (Derives g levels Inside p) ts r
  viable flag deep (token k f) i h v l ts r e = let s = some flag deep (token k f) h v l in ([], s.0, s.1, token_err g k f ts r e, s.2, s.3)
  viable flag deep (empty a) i h v l ts r e = cc
  viable flag deep (seq p q) i h v l ts r e =
      let v1 = and_true (is_predictive g example flag p) _ v in
      let v2 = and_true (is_predictive g example flag q) _ v1.1 in
      let m = and_true (is_alive deep p) _ l in
      elim (bind_err (read g levels inside p ts) _ r e) [
        | inl e' ↦ (
            let w = viable flag deep p i h v1.0 m.0 ts r e' in
            let s = some flag deep q h v2.0 m.1 in
            (w.0, w.1 ++ s.0, (w.2, s.1), w.3, (w.0 ++ w.1, s.0, sym (append_assoc w.0 w.1 s.0), w.4, s.2), all_append g.IsToken w.1 s.0 w.5 s.3))
        | inr o ↦ elim (bind_err (read g levels inside q o.1) _ r o.3) [
          | inl e' ↦ (
              let t = sound g same_true levels inside Inside sound_inside p ts o.0 o.1 o.2 in
              let w = viable flag deep q i h v2.0 m.1 o.1 r e' in
              (t.0 ++ w.0, w.1, (o.0, w.2), t.1 ∙ ap (λ z. t.0 ++ z) w.3 ∙ sym (append_assoc t.0 w.0 r), (t.0, w.0 ++ w.1, append_assoc t.0 w.0 w.1, t.2, w.4), w.5))
          | inr o' ↦ cc o'.3
        ]
      ]
  viable flag deep (or p q) i h v l ts r e =
      let v1 = and_true (is_predictive g example flag p) _ v in
      let v2 = and_true (is_predictive g example flag q) _ v1.1 in
      let v3 = and_true (are_apart g (first_kinds g p) (first_kinds g q)) _ v2.1 in
      let v4 = and_true (not (can_be_empty p)) _ v3.1 in
      let v5 = and_true (is_safe flag p) _ v4.1 in
      let s = some flag deep (or p q) h v l in
      elim (chosen (sees g (first_kinds g p) ts) _ _ _ e) [
        | inl c ↦ elim (safe_cases flag deep p i h v5.0) [
          | inl m ↦ (let w = viable flag deep p i h v1.0 m ts r c.1 in (w.0, w.1, w.2, w.3, inl w.4, w.5))
          | inr x ↦ ([], s.0, s.1, err_same ts r (sym (x ts) ∙ c.1), s.2, s.3)
        ]
        | inr c ↦ elim (safe_cases flag deep q i h v5.1) [
          | inl m ↦ (let w = viable flag deep q i h v2.0 m ts r c.1 in (w.0, w.1, w.2, w.3, inr w.4, w.5))
          | inr x ↦ ([], s.0, s.1, err_same ts r (sym (x ts) ∙ c.1), s.2, s.3)
        ]
      ]
  viable flag deep (many p) i h v l ts r e =
      let v1 = and_true (is_predictive g example flag p) _ v in
      let v2 = and_true (not (can_be_empty p)) _ v1.1 in
      let v3 = and_true (are_apart g (more g p) (first_kinds g p)) _ v2.1 in
      many_viable g (first_kinds g p) (Derives g levels Inside p) (read g levels inside p) (sound g same_true levels inside Inside sound_inside p)
      (λ ts r e. elim (safe_cases flag deep p i h v3.1) [ inl m ↦ inr (viable flag deep p i h v1.0 m ts r e) | inr x ↦ inl (err_same ts r (sym (x ts) ∙ e)) ])
      (length ts) ts r e
  viable flag deep (map f p) i h v l ts r e = elim (bind_err (read g levels inside p ts) _ r e) [
    | inl e' ↦ (let w = viable flag deep p i h v l ts r e' in (w.0, w.1, f w.2, w.3, (w.2, w.4, refl), w.5))
    | inr o ↦ cc o.3
  ]
  viable flag deep (level p) i h v l ts r e =
      let m = and_true deep _ l in
      let z = not_true (levels == 0) (h ∙ m.0) in
      elim (chosen (levels == 0) _ _ _ e) [
        | inl c ↦ (let y : (levels == 0) ≡ true = c.0 in cc)
        | inr c ↦ (let w = viable true deep p (λ _. m.0) h v m.1 ts r c.1 in (w.0, w.1, w.2, w.3, (z, w.4), w.5))
      ]
  viable flag deep (nested n) i h v l ts r e = viable_inside n ts r (not_true (levels == 0) (h ∙ l)) e
