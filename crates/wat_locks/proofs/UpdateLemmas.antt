-- One item of a list changes, and with it the lists that its items stand for.
use Rattle.std.proofs.Common.{◌≡◌, ℕ, zero, suc, List, [], ◌∷◌, ◌++◌, map, slice_get, slice_set, sym, ◌∙◌, ap, subst, inl, inr, ⊎_elim, ◌⊎◌, Some}
use Rattle.std.specs.Prelude.{◌↔◌}
use Rattle.std.specs.List.{flat_map}
use Rattle.wat_list.specs.Has.{Has, IsOnce}
use Rattle.wat_list.proofs.Members.{has_left, has_right, has_cases, map_has}
use Rattle.wat_list.proofs.Once.{once_append, once_push}

pub has_at : {A : Type 0} (xs : List A) (i : ℕ) (x : A) → slice_get xs i ≡ Some x → Has x xs
has_at [] i x at = absurd (cc)
has_at (y ∷ ys) zero x at = let e : y ≡ x = cc in inl e
has_at (y ∷ ys) (suc i) x at = inr (has_at ys i x at)

-- items of which a part differs are the same where the part is the same
pub once_by : {A B : Type 0} (g : A → B) (xs : List A) (x y : A) → IsOnce (map g xs) → Has x xs → Has y xs → g x ≡ g y → x ≡ y
once_by g [] x y one h k e = absurd h
once_by g (z ∷ zs) x y one (inl a) (inl b) e = sym a ∙ b
once_by {A} {B} g (z ∷ zs) x y one (inl a) (inr k) e = absurd (one.0 (subst (λ (w : B). Has w (map g zs)) (sym e ∙ ap g (sym a)) (map_has g y zs k)))
once_by {A} {B} g (z ∷ zs) x y one (inr h) (inl b) e = absurd (one.0 (subst (λ (w : B). Has w (map g zs)) (e ∙ ap g (sym b)) (map_has g x zs h)))
once_by g (z ∷ zs) x y one (inr h) (inr k) e = once_by g zs x y one.1 h k e

-- a list in two parts has each item once: so have the parts, and they share none
pub once_parts : {A : Type 0} (xs ys : List A) → IsOnce (xs ++ ys) → IsOnce xs × IsOnce ys × ((z : A) → Has z xs → Has z ys → ⊥)
once_parts [] ys one = (tt, one, λ z h k. h)
once_parts {A} (x ∷ xs) ys one =
    let rest = once_parts xs ys one.1 in (
      (λ h. one.0 (has_left x xs ys h), rest.0),
      rest.1,
      λ z h k. ⊎_elim (λ (e : x ≡ z). one.0 (has_right x xs ys (subst (λ (w : A). Has w ys) (sym e) k))) (λ m. rest.2 z m k) h,
    )

pub map_set : {A B : Type 0} (g : A → B) (xs : List A) (i : ℕ) (x y : A) → slice_get xs i ≡ Some x → g y ≡ g x → map g (slice_set xs i y) ≡ map g xs
map_set g [] i x y at e = absurd (cc)
map_set {A} {B} g (z ∷ zs) zero x y at e = let s : z ≡ x = cc in ap (λ (w : B). w ∷ map g zs) (e ∙ ap g (sym s))
map_set {A} {B} g (z ∷ zs) (suc i) x y at e = ap (λ (ws : List B). g z ∷ ws) (map_set g zs i x y at e)

module _ {A B : Type 0} (f : A → List B) (x y : A) (b : B) where
  -- the changed item stands for one more
  module _ (more : f y ≡ f x ++ b ∷ []) where
    front : (z : A) → z ≡ x → (rest : List B) (w : B) → Has w (f y ++ rest) ↔ (Has w (f z ++ rest) ⊎ (b ≡ w))
    front z e rest w = (
      λ h. ⊎_elim
          (λ p. ⊎_elim (λ q. inl (has_left w (f z) rest (subst (λ (k : A). Has w (f k)) (sym e) q))) (λ q. ⊎_elim (λ s. inr s) (λ n. absurd n) q) (has_cases w (f x) (b ∷ []) (subst (λ (ws : List B). Has w ws) more p)))
          (λ p. inl (has_right w (f z) rest p))
          (has_cases w (f y) rest h),
      λ h. ⊎_elim
          (λ p. ⊎_elim (λ q. has_left w (f y) rest (subst (λ (ws : List B). Has w ws) (sym more) (has_left w (f x) (b ∷ []) (subst (λ (k : A). Has w (f k)) e q)))) (λ q. has_right w (f y) rest q) (has_cases w (f z) rest p))
          (λ s. has_left w (f y) rest (subst (λ (ws : List B). Has w ws) (sym more) (has_right w (f x) (b ∷ []) (inl s))))
          h,
    )

    pub set_adds : (xs : List A) (i : ℕ) → slice_get xs i ≡ Some x → (w : B) → Has w (flat_map f (slice_set xs i y)) ↔ (Has w (flat_map f xs) ⊎ (b ≡ w))
    set_adds [] i at w = absurd (cc)
    set_adds (z ∷ zs) zero at w = let e : z ≡ x = cc in front z e (flat_map f zs) w
    set_adds (z ∷ zs) (suc i) at w =
        let deeper = set_adds zs i at w in (
          λ h. ⊎_elim (λ p. inl (has_left w (f z) (flat_map f zs) p)) (λ p. ⊎_elim (λ q. inl (has_right w (f z) (flat_map f zs) q)) (λ q. inr q) (deeper.0 p)) (has_cases w (f z) (flat_map f (slice_set zs i y)) h),
          λ h. ⊎_elim
              (λ p. ⊎_elim (λ q. has_left w (f z) (flat_map f (slice_set zs i y)) q) (λ q. has_right w (f z) (flat_map f (slice_set zs i y)) (deeper.1 (inl q))) (has_cases w (f z) (flat_map f zs) p))
              (λ s. has_right w (f z) (flat_map f (slice_set zs i y)) (deeper.1 (inr s)))
              h,
        )

    pub set_adds_once : (xs : List A) (i : ℕ) → slice_get xs i ≡ Some x → IsOnce (flat_map f xs) → (Has b (flat_map f xs) → ⊥) → IsOnce (flat_map f (slice_set xs i y))
    set_adds_once [] i at one new = absurd (cc)
    set_adds_once (z ∷ zs) zero at one new =
        let e : z ≡ x = cc in
        let parts = once_parts (f z) (flat_map f zs) one in
        let own : IsOnce (f x) = subst (λ (k : A). IsOnce (f k)) e parts.0 in
        let not_own : Has b (f x) → ⊥ = λ h. new (has_left b (f z) (flat_map f zs) (subst (λ (k : A). Has b (f k)) (sym e) h)) in
        once_append (f y) (flat_map f zs)
        (subst (λ (ws : List B). IsOnce ws) (sym more) (once_push b (f x) own not_own))
        parts.1
        (λ w h k. ⊎_elim
        (λ p. parts.2 w (subst (λ (m : A). Has w (f m)) (sym e) p) k)
        (λ p. ⊎_elim (λ (s : b ≡ w). new (has_right b (f z) (flat_map f zs) (subst (λ (v : B). Has v (flat_map f zs)) (sym s) k))) (λ n. n) p)
        (has_cases w (f x) (b ∷ []) (subst (λ (ws : List B). Has w ws) more h)))
    set_adds_once (z ∷ zs) (suc i) at one new =
        let parts = once_parts (f z) (flat_map f zs) one in
        once_append (f z) (flat_map f (slice_set zs i y)) parts.0
        (set_adds_once zs i at parts.1 (λ h. new (has_right b (f z) (flat_map f zs) h)))
        (λ w h k. ⊎_elim
        (λ p. parts.2 w h p)
        (λ (s : b ≡ w). new (has_left b (f z) (flat_map f zs) (subst (λ (v : B). Has v (f z)) (sym s) h)))
        ((set_adds zs i at w).0 k))

  -- the changed item stands for one less
  module _ (there : Has b (f x)) (own : IsOnce (f x) → IsOnce (f y)) (less : (w : B) → Has w (f y) ↔ (Has w (f x) × (w ≡ b → ⊥))) where
    has_here : (xs : List A) (i : ℕ) → slice_get xs i ≡ Some x → Has b (flat_map f xs)
    has_here [] i at = absurd (cc)
    has_here (z ∷ zs) zero at = let e : x ≡ z = cc in has_left b (f z) (flat_map f zs) (subst (λ (k : A). Has b (f k)) e there)
    has_here (z ∷ zs) (suc i) at = has_right b (f z) (flat_map f zs) (has_here zs i at)

    pub set_takes : (xs : List A) (i : ℕ) → slice_get xs i ≡ Some x → IsOnce (flat_map f xs) → (w : B) → Has w (flat_map f (slice_set xs i y)) ↔ (Has w (flat_map f xs) × (w ≡ b → ⊥))
    set_takes [] i at one w = absurd (cc)
    set_takes (z ∷ zs) zero at one w =
        let e : z ≡ x = cc in
        let parts = once_parts (f z) (flat_map f zs) one in (
          λ h. ⊎_elim
              (λ p. let both = (less w).0 p in (has_left w (f z) (flat_map f zs) (subst (λ (k : A). Has w (f k)) (sym e) both.0), both.1))
              (λ p. (has_right w (f z) (flat_map f zs) p, λ s. parts.2 b (subst (λ (k : A). Has b (f k)) (sym e) there) (subst (λ (v : B). Has v (flat_map f zs)) s p)))
              (has_cases w (f y) (flat_map f zs) h),
          λ both. ⊎_elim
              (λ p. has_left w (f y) (flat_map f zs) ((less w).1 (subst (λ (k : A). Has w (f k)) e p, both.1)))
              (λ p. has_right w (f y) (flat_map f zs) p)
              (has_cases w (f z) (flat_map f zs) both.0),
        )
    set_takes (z ∷ zs) (suc i) at one w =
        let parts = once_parts (f z) (flat_map f zs) one in
        let deeper = set_takes zs i at parts.1 w in (
          λ h. ⊎_elim
              (λ p. (has_left w (f z) (flat_map f zs) p, λ s. parts.2 b (subst (λ (v : B). Has v (f z)) s p) (has_here zs i at)))
              (λ p. let both = deeper.0 p in (has_right w (f z) (flat_map f zs) both.0, both.1))
              (has_cases w (f z) (flat_map f (slice_set zs i y)) h),
          λ both. ⊎_elim
              (λ p. has_left w (f z) (flat_map f (slice_set zs i y)) p)
              (λ p. has_right w (f z) (flat_map f (slice_set zs i y)) (deeper.1 (p, both.1)))
              (has_cases w (f z) (flat_map f zs) both.0),
        )

    pub set_takes_once : (xs : List A) (i : ℕ) → slice_get xs i ≡ Some x → IsOnce (flat_map f xs) → IsOnce (flat_map f (slice_set xs i y))
    set_takes_once [] i at one = absurd (cc)
    set_takes_once (z ∷ zs) zero at one =
        let e : z ≡ x = cc in
        let parts = once_parts (f z) (flat_map f zs) one in
        once_append (f y) (flat_map f zs) (own (subst (λ (k : A). IsOnce (f k)) e parts.0)) parts.1
        (λ w h k. parts.2 w (subst (λ (m : A). Has w (f m)) (sym e) ((less w).0 h).0) k)
    set_takes_once (z ∷ zs) (suc i) at one =
        let parts = once_parts (f z) (flat_map f zs) one in
        once_append (f z) (flat_map f (slice_set zs i y)) parts.0 (set_takes_once zs i at parts.1)
        (λ w h k. parts.2 w h ((set_takes zs i at parts.1 w).0 k).0)

-- the changed item stands for the same
pub flat_map_set : {A B : Type 0} (f : A → List B) (x y : A) (xs : List A) (i : ℕ) → slice_get xs i ≡ Some x → f y ≡ f x → flat_map f (slice_set xs i y) ≡ flat_map f xs
flat_map_set f x y [] i at e = absurd (cc)
flat_map_set {A} {B} f x y (z ∷ zs) zero at e = let s : z ≡ x = cc in ap (λ (ws : List B). ws ++ flat_map f zs) (e ∙ ap f (sym s))
flat_map_set {A} {B} f x y (z ∷ zs) (suc i) at e = ap (λ (ws : List B). f z ++ ws) (flat_map_set f x y zs i at e)

-- the list of one item has its members once where all have
pub own_once : {A B : Type 0} (f : A → List B) (x : A) (xs : List A) (i : ℕ) → slice_get xs i ≡ Some x → IsOnce (flat_map f xs) → IsOnce (f x)
own_once f x [] i at one = absurd (cc)
own_once {A} f x (z ∷ zs) zero at one = let e : z ≡ x = cc in subst (λ (k : A). IsOnce (f k)) e (once_parts (f z) (flat_map f zs) one).0
own_once f x (z ∷ zs) (suc i) at one = own_once f x zs i at (once_parts (f z) (flat_map f zs) one).1
