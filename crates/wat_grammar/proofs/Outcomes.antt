-- What an outcome that is made of others tells of them.
use Rattle.std.proofs.Common.{◌≡◌, Bool, true, false, ◌&&◌, ◌||◌, not, cond, List, ◌++◌, Ok, Err, ◌⊎◌, inl, inr, refl, sym, ◌∙◌, ap, append_assoc}
use Rattle.wat_grammar.specs.Phrase.{Outcome, ◌>>=◌}

pub chosen : {Z : Type 0} (b : Bool) (x y z : Z) → cond b x y ≡ z → ((b ≡ true) × (x ≡ z)) ⊎ ((b ≡ false) × (y ≡ z))
chosen true x y z e = inl (refl, e)
chosen false x y z e = inr (refl, e)

pub and_true : (a b : Bool) → (a && b) ≡ true → (a ≡ true) × (b ≡ true)
and_true true b e = (refl, e)
and_true false b e = cc

pub or_true : (a b : Bool) → (a || b) ≡ true → (a ≡ true) ⊎ (b ≡ true)
or_true true b e = inl refl
or_true false b e = inr e

pub or_false : (a b : Bool) → (a || b) ≡ false → (a ≡ false) × (b ≡ false)
or_false true b e = cc
or_false false b e = (refl, e)

pub not_true : (a : Bool) → not a ≡ true → a ≡ false
not_true true e = cc
not_true false e = refl

pub bind_ok : {X A B : Type 0} (o : Outcome X A) (f : A → List X → Outcome X B) (y : B × List X) → (o >>= f) ≡ Ok y
    → (a : A) × (us : List X) × (o ≡ Ok (a, us)) × (f a us ≡ Ok y)
bind_ok (Ok p) f y e = (p.0, p.1, refl, e)
bind_ok (Err r) f y e = cc

pub bind_err : {X A B : Type 0} (o : Outcome X A) (f : A → List X → Outcome X B) (r : List X) → (o >>= f) ≡ Err r
    → (o ≡ Err r) ⊎ ((a : A) × (us : List X) × (o ≡ Ok (a, us)) × (f a us ≡ Err r))
bind_err (Ok p) f r e = inr (p.0, p.1, refl, e)
bind_err (Err r') f r e = inl (let e' : r' ≡ r = cc in ap Err e')

pub ok_parts : {X A : Type 0} (a b : A) (us vs : List X) → (let o : Outcome X A = Ok (a, us) in o) ≡ Ok (b, vs) → (a ≡ b) × (us ≡ vs)
ok_parts {X} {A} a b us vs e =
    let x : A × List X = (a, us) in
    let y : A × List X = (b, vs) in
    let p : x ≡ y = cc in (ap (λ (z : A × List X). z.0) p, ap (λ (z : A × List X). z.1) p)

pub rest_of : {X : Type 0} (ts us ms vs s r : List X) → ts ≡ us ++ ms → ms ≡ vs ++ s → s ≡ r → ts ≡ (us ++ vs) ++ r
rest_of ts us ms vs s r e1 e2 e3 = e1 ∙ ap (λ zs. us ++ zs) (e2 ∙ ap (λ zs. vs ++ zs) e3) ∙ sym (append_assoc us vs r)

pub take_true : {Z : Type 0} (b : Bool) (x y z : Z) → b ≡ true → x ≡ z → cond b x y ≡ z
take_true true x y z e h = h
take_true false x y z e h = cc e

pub take_false : {Z : Type 0} (b : Bool) (x y z : Z) → b ≡ false → y ≡ z → cond b x y ≡ z
take_false true x y z e h = cc e
take_false false x y z e h = h

pub bind_of : {X A B : Type 0} (o : Outcome X A) (f : A → List X → Outcome X B) (a : A) (us : List X) (y : Outcome X B) → o ≡ Ok (a, us) → f a us ≡ y → (o >>= f) ≡ y
bind_of o f a us y e h = ap (λ o'. o' >>= f) e ∙ h

pub bind_err_of : {X A B : Type 0} (o : Outcome X A) (f : A → List X → Outcome X B) (r : List X) → o ≡ Err r → (o >>= f) ≡ Err r
bind_err_of o f r e = ap (λ o'. o' >>= f) e

pub either : {Z : Type 0} (b : Bool) (x y z : Z) → x ≡ z → y ≡ z → cond b x y ≡ z
either true x y z h k = h
either false x y z h k = k

pub bind_assoc : {X A B C : Type 0} (o : Outcome X A) (f : A → List X → Outcome X B) (h : B → List X → Outcome X C) → ((o >>= f) >>= h) ≡ (o >>= (λ a us. f a us >>= h))
bind_assoc (Ok p) f h = refl
bind_assoc (Err r) f h = refl

pub pair_bind : {X A B C : Type 0} (o : Outcome X A) (q : List X → Outcome X B) (h : A × B → C)
    → ((o >>= (λ a us. q us >>= (λ b vs. Ok ((a, b), vs)))) >>= (λ x vs. Ok (h x, vs))) ≡ (o >>= (λ a us. q us >>= (λ b vs. Ok (h (a, b), vs))))
pair_bind (Ok p) q h = bind_assoc (q p.1) _ _
pair_bind (Err r) q h = refl
