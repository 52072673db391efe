-- Members of lists: of two in a row, and of what map, filter and tests leave.
use Rattle.std.proofs.Common.{◌≡◌, Bool, true, false, ◌&&◌, ◌||◌, List, [], ◌∷◌, ◌++◌, map, filter, cond, Option, Some, None, ◌⊎◌, refl, sym, ap, ◌∙◌, subst, inl, inr, ⊎_elim}
use Rattle.std.specs.List.{list_all, list_any, filter_map, flat_map, cons_option}
use Rattle.std.proofs.lemmas.Bool.{and_parts, both_ways}
use Rattle.wat_list.specs.Has.{Has, HasSame}

pub has_cases : {A : Type 0} (x : A) (xs ys : List A) → Has x (xs ++ ys) → Has x xs ⊎ Has x ys
has_cases x [] ys h = inr h
has_cases x (z ∷ xs) ys (inl e) = inl (inl e)
has_cases x (z ∷ xs) ys (inr h) = ⊎_elim (λ k. inl (inr k)) (λ k. inr k) (has_cases x xs ys h)

pub has_left : {A : Type 0} (x : A) (xs ys : List A) → Has x xs → Has x (xs ++ ys)
has_left x [] ys h = absurd h
has_left x (z ∷ xs) ys (inl e) = inl e
has_left x (z ∷ xs) ys (inr h) = inr (has_left x xs ys h)

pub has_right : {A : Type 0} (x : A) (xs ys : List A) → Has x ys → Has x (xs ++ ys)
has_right x [] ys h = h
has_right x (z ∷ xs) ys h = inr (has_right x xs ys h)

pub has_map : {A B : Type 0} (f : A → B) (y : B) (xs : List A) → Has y (map f xs) → (x : A) × Has x xs × (f x ≡ y)
has_map f y [] h = absurd h
has_map f y (x ∷ xs) (inl e) = (x, inl refl, e)
has_map f y (x ∷ xs) (inr h) = let r = has_map f y xs h in (r.0, inr r.1, r.2)

pub map_has : {A B : Type 0} (f : A → B) (x : A) (xs : List A) → Has x xs → Has (f x) (map f xs)
map_has f x [] h = absurd h
map_has f x (z ∷ xs) (inl e) = inl (ap f e)
map_has f x (z ∷ xs) (inr h) = inr (map_has f x xs h)

has_cons : {A : Type 0} (y : A) (o : Option A) (ys : List A) → Has y (cons_option o ys) → (o ≡ Some y) ⊎ Has y ys
has_cons y None ys h = inr h
has_cons y (Some z) ys (inl e) = inl (ap Some e)
has_cons y (Some z) ys (inr h) = inr h

pub has_filter_map : {A B : Type 0} (f : A → Option B) (y : B) (xs : List A) → Has y (filter_map f xs) → (x : A) × Has x xs × (f x ≡ Some y)
has_filter_map f y [] h = absurd h
has_filter_map f y (x ∷ xs) h = ⊎_elim
    (λ (e : f x ≡ Some y). (x, inl refl, e))
    (λ (m : Has y (filter_map f xs)). let r = has_filter_map f y xs m in (r.0, inr r.1, r.2))
    (has_cons y (f x) (filter_map f xs) h)

pub has_filter : {A : Type 0} (p : A → Bool) (x : A) (xs : List A) → Has x (filter p xs) → Has x xs × (p x ≡ true)
has_filter p x [] h = absurd h
has_filter p x (y ∷ ys) h = at_test (λ m. has_filter p x ys m) (p y) refl h
  where
    at_test : (Has x (filter p ys) → Has x ys × (p x ≡ true)) → (b : Bool) → p y ≡ b → Has x (cond b (y ∷ filter p ys) (filter p ys)) → Has x (y ∷ ys) × (p x ≡ true)
    at_test rest true e (inl m) = (inl m, subst (λ z. p z ≡ true) m e)
    at_test rest true e (inr m) = let o = rest m in (inr o.0, o.1)
    at_test rest false e m = let o = rest m in (inr o.0, o.1)

pub filter_has : {A : Type 0} (p : A → Bool) (x : A) (xs : List A) → Has x xs → p x ≡ true → Has x (filter p xs)
filter_has p x [] h t = absurd h
filter_has p x (y ∷ ys) h t = at_test (λ m. filter_has p x ys m t) (p y) refl h
  where
    at_test : (Has x ys → Has x (filter p ys)) → (b : Bool) → p y ≡ b → Has x (y ∷ ys) → Has x (cond b (y ∷ filter p ys) (filter p ys))
    at_test rest true e (inl m) = inl m
    at_test rest true e (inr m) = inr (rest m)
    at_test rest false e (inl m) = absurd (both_ways (p y) e (subst (λ z. p z ≡ true) (sym m) t))
    at_test rest false e (inr m) = rest m

-- a member of which a test doesn't hold, where it doesn't hold of all
pub some_fails : {A : Type 0} (p : A → Bool) (xs : List A) → list_all p xs ≡ false → (x : A) × Has x xs × (p x ≡ false)
some_fails p [] h = absurd (both_ways true h refl)
some_fails p (x ∷ xs) h = by (p x) refl h (λ k. some_fails p xs k)
  where
    by : (b : Bool) → p x ≡ b → (b && list_all p xs) ≡ false → (list_all p xs ≡ false → (y : _) × Has y xs × (p y ≡ false)) → (y : _) × Has y (x ∷ xs) × (p y ≡ false)
    by false e k rest = (x, inl refl, e)
    by true e k rest = let r = rest k in (r.0, inr r.1, r.2)

pub all_has : {A : Type 0} (p : A → Bool) (x : A) (xs : List A) → list_all p xs ≡ true → Has x xs → p x ≡ true
all_has p x [] a h = absurd h
all_has p x (y ∷ ys) a (inl e) = ap p (sym e) ∙ (and_parts (p y) (list_all p ys) a).0
all_has p x (y ∷ ys) a (inr h) = all_has p x ys (and_parts (p y) (list_all p ys) a).1 h

pub any_has : {A : Type 0} (p : A → Bool) (xs : List A) → list_any p xs ≡ true → (x : A) × Has x xs × (p x ≡ true)
any_has p [] h = absurd (both_ways false refl h)
any_has p (x ∷ xs) h = by (p x) refl h (λ k. any_has p xs k)
  where
    by : (b : Bool) → p x ≡ b → (b || list_any p xs) ≡ true → (list_any p xs ≡ true → (y : _) × Has y xs × (p y ≡ true)) → (y : _) × Has y (x ∷ xs) × (p y ≡ true)
    by true e k rest = (x, inl refl, e)
    by false e k rest = let r = rest k in (r.0, inr r.1, r.2)

pub has_any : {A : Type 0} (p : A → Bool) (x : A) (xs : List A) → Has x xs → p x ≡ true → list_any p xs ≡ true
has_any p x [] h t = absurd h
has_any p x (y ∷ ys) (inl e) t = ap (λ z. z || list_any p ys) (ap p e ∙ t)
has_any p x (y ∷ ys) (inr h) t = right (p y) (list_any p ys) (has_any p x ys h t)
  where
    right : (a b : Bool) → b ≡ true → (a || b) ≡ true
    right true b e = refl
    right false b e = e

-- one more that stands already
pub same_there : {A : Type 0} (z : A) (xs ys : List A) → HasSame xs ys → Has z xs → HasSame xs (ys ++ z ∷ [])
same_there {A} z xs ys same there x = (
  λ r. has_left x ys (z ∷ []) ((same x).0 r),
  λ r. ⊎_elim (λ p. (same x).1 p) (λ q. ⊎_elim (λ e. subst (λ (w : A). Has w xs) e there) (λ n. absurd n) q) (has_cases x ys (z ∷ []) r),
)

-- one more on both sides
pub same_push : {A : Type 0} (z : A) (xs ys : List A) → HasSame xs ys → HasSame (xs ++ z ∷ []) (ys ++ z ∷ [])
same_push z xs ys same x = (
  λ r. ⊎_elim (λ p. has_left x ys (z ∷ []) ((same x).0 p)) (λ q. has_right x ys (z ∷ []) q) (has_cases x xs (z ∷ []) r),
  λ r. ⊎_elim (λ p. has_left x xs (z ∷ []) ((same x).1 p)) (λ q. has_right x xs (z ∷ []) q) (has_cases x ys (z ∷ []) r),
)

pub has_flat_map : {A B : Type 0} (f : A → List B) (y : B) (xs : List A) → Has y (flat_map f xs) → (x : A) × Has x xs × Has y (f x)
has_flat_map f y [] h = absurd h
has_flat_map f y (x ∷ xs) h = ⊎_elim
    (λ (m : Has y (f x)). (x, inl refl, m))
    (λ (m : Has y (flat_map f xs)). let r = has_flat_map f y xs m in (r.0, inr r.1, r.2))
    (has_cases y (f x) (flat_map f xs) h)

pub flat_map_has : {A B : Type 0} (f : A → List B) (y : B) (x : A) (xs : List A) → Has x xs → Has y (f x) → Has y (flat_map f xs)
flat_map_has f y x [] h m = absurd h
flat_map_has f y x (z ∷ xs) (inl e) m = has_left y (f z) (flat_map f xs) (subst (λ w. Has y (f w)) (sym e) m)
flat_map_has f y x (z ∷ xs) (inr h) m = has_right y (f z) (flat_map f xs) (flat_map_has f y x xs h m)
