-- Lists with the same members, each once, are the same in another order.
use Rattle.std.proofs.Common.{◌≡◌, Bool, true, false, cond, List, [], ◌∷◌, ◌++◌, map, filter, refl, sym, ap, subst, inl, inr, ⊎_elim, IsPermutation}
use Rattle.std.proofs.lemmas.List.Sorted.{IsPermutation-refl, IsPermutation-sym, IsPermutation-trans, IsPermutation-cons, IsPermutation-middle}
use Rattle.wat_list.specs.Has.{Has, IsOnce}
use Rattle.wat_list.proofs.Members.{has_cases, has_left, has_right, has_map, has_filter}

-- a list around one of its members
record Around {A : Type 0} (x : A) (ys : List A) : Type 0 where
  front : List A
  back : List A
  is : ys ≡ front ++ x ∷ back

around : {A : Type 0} (x : A) (ys : List A) → Has x ys → Around x ys
around x [] h = absurd h
around x (y ∷ ys) (inl e) = record { front = []; back = ys; is = ap (λ z. z ∷ ys) e }
around x (y ∷ ys) (inr h) = let r = around x ys h in record { front = y ∷ r.front; back = r.back; is = ap (λ z. y ∷ z) r.is }

left_out : {A : Type 0} (x : A) (us vs : List A) → IsOnce (us ++ x ∷ vs) → IsOnce (us ++ vs) × (Has x (us ++ vs) → ⊥)
left_out x [] vs one = (one.1, one.0)
left_out x (u ∷ us) vs one =
    let r = left_out x us vs one.1 in
    ((λ h. one.0 (widen u h), r.0), λ h. ⊎_elim (λ (e : u ≡ x). one.0 (has_right u us (x ∷ vs) (inl (sym e)))) (λ (m : Has x (us ++ vs)). r.1 m) h)
  where
    widen : (z : _) → Has z (us ++ vs) → Has z (us ++ x ∷ vs)
    widen z h = ⊎_elim (λ (m : Has z us). has_left z us (x ∷ vs) m) (λ (m : Has z vs). has_right z us (x ∷ vs) (inr m)) (has_cases z us vs h)

into_middle : {A : Type 0} (z x : A) (us vs : List A) → Has z (us ++ vs) → Has z (us ++ x ∷ vs)
into_middle z x us vs h = ⊎_elim (λ (m : Has z us). has_left z us (x ∷ vs) m) (λ (m : Has z vs). has_right z us (x ∷ vs) (inr m)) (has_cases z us vs h)

out_of_middle : {A : Type 0} (z x : A) (us vs : List A) → (x ≡ z → ⊥) → Has z (us ++ x ∷ vs) → Has z (us ++ vs)
out_of_middle z x us vs ne h = ⊎_elim
    (λ (m : Has z us). has_left z us vs m)
    (λ (m : Has z (x ∷ vs)). ⊎_elim (λ (e : x ≡ z). absurd (ne e)) (λ (n : Has z vs). has_right z us vs n) m)
    (has_cases z us (x ∷ vs) h)

pub same_members : {A : Type 0} (xs ys : List A) → IsOnce xs → IsOnce ys → ((x : A) → Has x xs → Has x ys) → ((x : A) → Has x ys → Has x xs) → IsPermutation xs ys
same_members [] [] a b to back = IsPermutation-refl []
same_members [] (y ∷ ys) a b to back = absurd (back y (inl refl))
same_members (x ∷ xs) ys a b to back =
    let r = around x ys (to x (inl refl)) in
    let one = left_out x r.front r.back (subst IsOnce r.is b) in
    let rest : IsPermutation xs (r.front ++ r.back) =
    same_members xs (r.front ++ r.back) a.1 one.0
    (λ z m. out_of_middle z x r.front r.back (λ e. a.0 (subst (λ w. Has w xs) (sym e) m)) (subst (Has z) r.is (to z (inr m))))
    (λ z m. ⊎_elim (λ (e : x ≡ z). absurd (one.1 (subst (λ w. Has w (r.front ++ r.back)) (sym e) m))) (λ (n : Has z xs). n) (back z (subst (Has z) (sym r.is) (into_middle z x r.front r.back m)))) in
    subst (IsPermutation (x ∷ xs)) (sym r.is)
    (IsPermutation-trans (x ∷ xs) (x ∷ (r.front ++ r.back)) (r.front ++ x ∷ r.back) (IsPermutation-cons x xs (r.front ++ r.back) rest)
    (IsPermutation-sym (r.front ++ x ∷ r.back) (x ∷ (r.front ++ r.back)) (IsPermutation-middle r.front x r.back)))

pub once_filter : {A : Type 0} (p : A → Bool) (xs : List A) → IsOnce xs → IsOnce (filter p xs)
once_filter p [] one = tt
once_filter p (x ∷ xs) one = by (p x) (once_filter p xs one.1)
  where
    by : (b : Bool) → IsOnce (filter p xs) → IsOnce (cond b (x ∷ filter p xs) (filter p xs))
    by true rest = ((λ m. one.0 (has_filter p x xs m).0), rest)
    by false rest = rest

pub once_map : {A B : Type 0} (f : A → B) → ((x y : A) → f x ≡ f y → x ≡ y) → (xs : List A) → IsOnce xs → IsOnce (map f xs)
once_map f inj [] one = tt
once_map f inj (x ∷ xs) one = (
  λ m. let r = has_map f (f x) xs m in one.0 (subst (λ z. Has z xs) (inj r.0 x r.2) r.1),
  once_map f inj xs one.1,
)

pub once_append : {A : Type 0} (xs ys : List A) → IsOnce xs → IsOnce ys → ((x : A) → Has x xs → Has x ys → ⊥) → IsOnce (xs ++ ys)
once_append [] ys a b apart = b
once_append (x ∷ xs) ys a b apart = (
  λ m. ⊎_elim (λ (n : Has x xs). a.0 n) (λ (n : Has x ys). apart x (inl refl) n) (has_cases x xs ys m),
  once_append xs ys a.1 b (λ z m n. apart z (inr m) n),
)

pub once_push : {A : Type 0} (x : A) (xs : List A) → IsOnce xs → (Has x xs → ⊥) → IsOnce (xs ++ x ∷ [])
once_push x xs one new = once_append xs (x ∷ []) one ((λ h. h), tt) (λ z m n. ⊎_elim (λ (e : x ≡ z). new (subst (λ w. Has w xs) (sym e) m)) (λ (h : ⊥). h) n)
