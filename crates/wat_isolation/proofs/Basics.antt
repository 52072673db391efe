-- Functions given anew at a place, membership, and cases.
use Rattle.std.proofs.Common.{◌≡◌, nat_eq, Bool, true, false, cond, List, [], ◌∷◌, ◌++◌, ◌⊎◌, Option, Some, None, refl, sym, subst, inl, inr, ⊎_elim, eq-eqb, eqb-true}
use Rattle.std.proofs.lemmas.Bool.{cases_Bool, both_ways}
use Rattle.wat_isolation.specs.World.{World, put}
use Rattle.wat_list.specs.Has.{Has}

-- a test of equality
pub record IsSame {A : Type 0} (same : A → A → Bool) : Type 0 where
  pub is : (x y : A) → same x y ≡ true → x ≡ y
  pub self : (x : A) → same x x ≡ true

pub nat_same : IsSame nat_eq
nat_same = record { is = λ x y e. eqb-true x y e; self = λ x. eq-eqb x x refl }

pub row_same : (w : World) → IsSame w.same
row_same w = record { is = w.same_is; self = w.same_self }

pub cases_same : {A : Type 0} (same : A → A → Bool) (k : IsSame same) (x y : A) → (x ≡ y) ⊎ (x ≡ y → ⊥)
cases_same same k x y =
    ⊎_elim
    (λ (t : same x y ≡ true). inl (k.is x y t))
    (λ (f : same x y ≡ false). inr (λ (e : x ≡ y). both_ways (same x y) f (subst (λ z. same x z ≡ true) e (k.self x))))
    (cases_Bool (same x y))

pub put-same : {A B : Type 0} (same : A → A → Bool) (k : IsSame same) (f : A → B) (a : A) (v : B) → put same f a v a ≡ v
unfolding put
put-same same k f a v = rw (k.self a) refl

pub put-other : {A B : Type 0} (same : A → A → Bool) (k : IsSame same) (f : A → B) (a : A) (v : B) (x : A) → (x ≡ a → ⊥) → put same f a v x ≡ f x
unfolding put
put-other same k f a v x ne = at_test (same x a) (λ t. ne (k.is x a t))
  where
    at_test : (b : Bool) → (b ≡ true → ⊥) → cond b v (f x) ≡ f x
    at_test true off = absurd (off refl)
    at_test false off = refl

pub put_cases : {A B : Type 0} (same : A → A → Bool) (k : IsSame same) (f : A → B) (a : A) (v : B) (x : A) → ((x ≡ a) × (put same f a v x ≡ v)) ⊎ ((x ≡ a → ⊥) × (put same f a v x ≡ f x))
put_cases same k f a v x =
    ⊎_elim
    (λ (e : x ≡ a). inl (e, subst (λ z. put same f a v z ≡ v) (sym e) (put-same same k f a v)))
    (λ (ne : x ≡ a → ⊥). inr (ne, put-other same k f a v x ne))
    (cases_same same k x a)

pub has_cases : {A : Type 0} (x : A) (xs ys : List A) → Has x (xs ++ ys) → Has x xs ⊎ Has x ys
has_cases x [] ys h = inr h
has_cases x (z ∷ xs) ys (inl e) = inl (inl e)
has_cases x (z ∷ xs) ys (inr h) = ⊎_elim (λ k. inl (inr k)) (λ k. inr k) (has_cases x xs ys h)

pub has_left : {A : Type 0} (x : A) (xs ys : List A) → Has x xs → Has x (xs ++ ys)
has_left x [] ys h = absurd h
has_left x (z ∷ xs) ys (inl e) = inl e
has_left x (z ∷ xs) ys (inr h) = inr (has_left x xs ys h)

pub has_right : {A : Type 0} (x : A) (xs ys : List A) → Has x ys → Has x (xs ++ ys)
has_right x [] ys h = h
has_right x (z ∷ xs) ys h = inr (has_right x xs ys h)

-- there is a key or there is none
pub cases_some : {A : Type 0} (o : Option A) → ((x : A) × (o ≡ Some x)) ⊎ ((x : A) → o ≡ Some x → ⊥)
cases_some None = inr (λ x e. cc)
cases_some (Some y) = inl (y, refl)

pub some_same : {A : Type 0} (x y : A) → Some x ≡ Some y → x ≡ y
some_same x y e = cc
