-- From items to statements, for one transaction alone: no other connection is in here.
use Rattle.std.proofs.Common.{◌≡◌, Bool, true, false, cond, List, [], ◌∷◌, ◌++◌, refl, sym, ap, ◌∙◌, subst, inl, inr, ⊎_elim}
use Rattle.std.proofs.lemmas.Bool.{cases_Bool, both_ways, true≢false}
use Rattle.wat_isolation.specs.World.{World}
use Rattle.wat_list.specs.Has.{Has}
use Rattle.wat_isolation.specs.Rows.{Scheme, Tables, Lookup, Cut, IsCut, Within, Rising}
use Rattle.wat_isolation.specs.Logs.{Scan, Item, Item.Saw, Item.Did, Item.Looked, Item.Peeked, view, IsPlainScan, Alone}
use Rattle.wat_isolation.specs.Statements.{StatementLog, all_items, Determined, EachMeans, IsAll, only, each, nested}
use Rattle.wat_isolation.proofs.Basics.{has_cases, has_left, has_right}
use Rattle.wat_isolation.proofs.Orders.{below, rising_append, rising_once}

pub view_parts : (w : World) (f : Tables w) (xs ys : List (Item w)) → view w f (xs ++ ys) ≡ view w (view w f ys) xs
view_parts w f [] ys = refl
view_parts w f (Saw s ∷ xs) ys = view_parts w f xs ys
view_parts w f (Looked r v ∷ xs) ys = view_parts w f xs ys
view_parts w f (Peeked r v ∷ xs) ys = view_parts w f xs ys
view_parts w f (Did r b a ∷ xs) ys = ap (λ z. Rattle.wat_isolation.specs.Rows.set_row w z r a) (view_parts w f xs ys)

-- what a log did alone, its earlier part did, and its later part did on the tables after that
pub alone_parts : (w : World) (g : Scheme w) (f : Tables w) (xs ys : List (Item w)) → Alone w g f (xs ++ ys) → Alone w g f ys × Alone w g (view w f ys) xs
alone_parts w g f [] ys h = (h, tt)
alone_parts w g f (Saw s ∷ xs) ys h =
    let r = alone_parts w g f xs ys h.0 in (r.0, (r.1, subst (λ z. IsPlainScan w g z s) (view_parts w f xs ys) h.1))
alone_parts w g f (Looked r v ∷ xs) ys h =
    let o = alone_parts w g f xs ys h.0 in (o.0, (o.1, ap (λ z. z r) (sym (view_parts w f xs ys)) ∙ h.1))
alone_parts w g f (Peeked r v ∷ xs) ys h = alone_parts w g f xs ys h
alone_parts w g f (Did r b a ∷ xs) ys h =
    let o = alone_parts w g f xs ys h.0 in (o.0, (o.1, ap (λ z. z r) (sym (view_parts w f xs ys)) ∙ h.1))

-- Where each statement is determined by its items, a transaction that did what it does alone answers what its statements mean.
pub each_means : (w : World) (S R : Type 0) (g : Scheme w) (means : S → Tables w → R → Type 0) (f : Tables w) (ts : List (StatementLog w S R)) → ((t : StatementLog w S R) → Has t ts → Determined w S R g means t) → Alone w g f (all_items w S R ts) → EachMeans w S R means f ts
each_means w S R g means f [] det h = tt
each_means w S R g means f (t ∷ ts) det h =
    let o = alone_parts w g f t.items (all_items w S R ts) h in
    (each_means w S R g means f ts (λ u n. det u (inr n)) o.0, det t (inl refl) (view w f (all_items w S R ts)) o.1)

-- A scan in parts, each from the cut where the one before ended, is one scan: so nested scans go on where they were, each visit a scan of its own.
pub glue : (w : World) (g : Scheme w) (f : Tables w) (i : w.Index) (a b c : Cut w) (p q : Bool) (xs ys : List (w.Key × w.Content))
    → IsPlainScan w g f (record { index = i; lo = a; hi = b; done = p; rows = xs }) → IsPlainScan w g f (record { index = i; lo = b; hi = c; done = q; rows = ys })
    → IsPlainScan w g f (record { index = i; lo = a; hi = c; done = q; rows = xs ++ ys })
glue w g f i a b c p q xs ys h k = record {
  cut = k.cut;
  up = λ x m. k.up x (h.up x m);
  rising = rising_append w xs ys h.rising k.rising (λ x y m n. below w b h.cut x.0 y.0 (h.sound x.0 x.1 m).0.1 (k.sound y.0 y.1 n).0.0);
  sound = λ x v n. ⊎_elim
      (λ (m : Has (x, v) xs). let o = h.sound x v m in ((o.0.0, k.up x o.0.1), o.1))
      (λ (m : Has (x, v) ys). let o = k.sound x v m in ((not_yet x o.0.0, o.0.1), o.1))
      (has_cases (x, v) xs ys n);
  full = λ x v m n. ⊎_elim
      (λ (t : b x ≡ true). has_left (x, v) xs ys (h.full x v (m.0, t) n))
      (λ (t : b x ≡ false). has_right (x, v) xs ys (k.full x v (t, m.1) n))
      (cases_Bool (b x));
}
  where
    not_yet : (x : w.Key) → b x ≡ false → a x ≡ false
    not_yet x e = ⊎_elim (λ (t : a x ≡ true). absurd (both_ways (b x) e (h.up x t))) (λ t. t) (cases_Bool (a x))

-- members of what a test leaves
pub only_has : {A : Type 0} (p : A → Bool) (x : A) (xs : List A) → Has x (only p xs) → Has x xs × (p x ≡ true)
only_has p x [] h = absurd h
only_has p x (y ∷ ys) h = at_test (λ m. only_has p x ys m) (p y) refl h
  where
    at_test : (Has x (only p ys) → Has x ys × (p x ≡ true)) → (b : Bool) → p y ≡ b → Has x (cond b (y ∷ only p ys) (only p ys)) → Has x (y ∷ ys) × (p x ≡ true)
    at_test rest true e (inl m) = (inl m, subst (λ z. p z ≡ true) m e)
    at_test rest true e (inr m) = let o = rest m in (inr o.0, o.1)
    at_test rest false e m = let o = rest m in (inr o.0, o.1)

pub has_only : {A : Type 0} (p : A → Bool) (x : A) (xs : List A) → Has x xs → p x ≡ true → Has x (only p xs)
has_only p x [] h t = absurd h
has_only p x (y ∷ ys) h t = at_test (λ m. has_only p x ys m t) (p y) refl h
  where
    at_test : (Has x ys → Has x (only p ys)) → (b : Bool) → p y ≡ b → Has x (y ∷ ys) → Has x (cond b (y ∷ only p ys) (only p ys))
    at_test rest true e (inl m) = inl m
    at_test rest true e (inr m) = inr (rest m)
    at_test rest false e (inl m) = absurd (both_ways (p y) e (subst (λ z. p z ≡ true) (sym m) t))
    at_test rest false e (inr m) = rest m

pub rising_only : (w : World) (p : w.Key × w.Content → Bool) (xs : List (w.Key × w.Content)) → Rising w xs → Rising w (only p xs)
rising_only w p [] h = tt
rising_only w p (x ∷ xs) h = at_test (rising_only w p xs h.1) (p x)
  where
    at_test : (Rising w (only p xs)) → (b : Bool) → Rising w (cond b (x ∷ only p xs) (only p xs))
    at_test rest true = ((λ d m. h.0 d (only_has p d xs m).0), rest)
    at_test rest false = rest

-- a scan of an interval that holds all keys that pass: what passes of its rows is what passes of all rows
pub scan_is_plain : (w : World) (g : Scheme w) (f : Tables w) (at : Scan w) (all : List (w.Key × w.Content)) (p : w.Key × w.Content → Bool) → IsPlainScan w g f at → IsAll w g at.index f all → ((e : w.Key × w.Content) → p e ≡ true → Within w at.lo at.hi e.0) → only p at.rows ≡ only p all
scan_is_plain w g f at all p h k within =
    rising_once w (only p at.rows) (only p all) (rising_only w p at.rows h.rising) (rising_only w p all k.rising)
    (λ e m. let o = only_has p e at.rows m in has_only p e all (k.full e.0 e.1 (h.sound e.0 e.1 o.0).1) o.1)
    (λ e m. let o = only_has p e all m in has_only p e at.rows (h.full e.0 e.1 (within e o.1) (k.sound e.0 e.1 o.0)) o.1)

-- what gives nothing may be left out
pub each_only : {A B : Type 0} (f : A → List B) (p : A → Bool) (xs : List A) → ((x : A) → p x ≡ false → f x ≡ []) → each f (only p xs) ≡ each f xs
each_only f p [] h = refl
each_only f p (x ∷ xs) h = at_test (each_only f p xs h) (p x) refl
  where
    at_test : (each f (only p xs) ≡ each f xs) → (b : Bool) → p x ≡ b → each f (cond b (x ∷ only p xs) (only p xs)) ≡ f x ++ each f xs
    at_test rest true e = ap (λ z. f x ++ z) rest
    at_test rest false e = rest ∙ ap (λ z. z ++ each f xs) (sym (h x e))

pub each_same : {A B : Type 0} (f h : A → List B) (xs : List A) → ((x : A) → Has x xs → f x ≡ h x) → each f xs ≡ each h xs
each_same f h [] e = refl
each_same f h (x ∷ xs) e = ap (λ z. z ++ each f xs) (e x (inl refl)) ∙ ap (λ z. h x ++ z) (each_same f h xs (λ y m. e y (inr m)))

pub only_none : {A : Type 0} (p : A → Bool) (xs : List A) → ((x : A) → Has x xs → p x ≡ false) → only p xs ≡ []
only_none p [] h = refl
only_none p (x ∷ xs) h = at_test (only_none p xs (λ y m. h y (inr m))) (p x) (h x (inl refl))
  where
    at_test : (only p xs ≡ []) → (b : Bool) → b ≡ false → cond b (x ∷ only p xs) (only p xs) ≡ []
    at_test rest true e = absurd (true≢false e)
    at_test rest false e = rest

pub only_all : {A : Type 0} (p : A → Bool) (xs : List A) → ((x : A) → Has x xs → p x ≡ true) → only p xs ≡ xs
only_all p [] h = refl
only_all p (x ∷ xs) h = at_test (only_all p xs (λ y m. h y (inr m))) (p x) (h x (inl refl))
  where
    at_test : (only p xs ≡ xs) → (b : Bool) → b ≡ true → cond b (x ∷ only p xs) (only p xs) ≡ x ∷ xs
    at_test rest true e = ap (λ z. x ∷ z) rest
    at_test rest false e = absurd (true≢false (sym e))

pub tested : (a b : Bool) → a ≡ false → b ≡ true → cond a false b ≡ true
tested true b e t = absurd (true≢false e)
tested false b e t = t

pub untested : (a b : Bool) → cond a false b ≡ true → (a ≡ false) × (b ≡ true)
untested true b t = absurd (true≢false (sym t))
untested false b t = (refl, t)

-- Nested scans, where the inner interval is given by the outer row, take in what a plain join of all rows does:
-- each interval holds all keys that pass.
pub join_is_plain : (w : World) (g : Scheme w) (f : Tables w) (outer : Scan w) (inner : w.Key × w.Content → Scan w) (j : w.Index) (all_outer all_inner : List (w.Key × w.Content)) (passes : w.Key × w.Content → w.Key × w.Content → Bool) {C : Type 0} (pair : w.Key × w.Content → w.Key × w.Content → C)
    → IsPlainScan w g f outer → ((a : w.Key × w.Content) → Has a outer.rows → IsPlainScan w g f (inner a) × ((inner a).index ≡ j))
    → IsAll w g outer.index f all_outer → IsAll w g j f all_inner
    → ((a b : w.Key × w.Content) → passes a b ≡ true → Within w outer.lo outer.hi a.0 × Within w (inner a).lo (inner a).hi b.0)
    → nested (λ a. (inner a).rows) passes pair outer.rows ≡ nested (λ a. all_inner) passes pair all_outer
join_is_plain w g f outer inner j all_outer all_inner passes {C} pair h k ho hi within =
    each_same (λ a. each (λ b. pair a b ∷ []) (only (passes a) (inner a).rows)) F outer.rows
    (λ a m. ap (each (λ b. pair a b ∷ [])) (scan_is_plain w g f (inner a) all_inner (passes a) (k a m).0 (subst (λ z. IsAll w g z f all_inner) (sym (k a m).1) hi) (λ b t. (within a b t).1)))
    ∙ (ap (each F) (sym (all_pass outer.rows (λ a m. in_test a.0 (h.sound a.0 a.1 m).0)))
    ∙ (ap (each F) (scan_is_plain w g f outer all_outer (λ a. test a.0) h ho (λ a t. from_test a.0 t))
    ∙ each_only F (λ a. test a.0) all_outer outside))
  where
    F : w.Key × w.Content → List C
    F a = each (λ b. pair a b ∷ []) (only (passes a) all_inner)

    test : w.Key → Bool
    test x = cond (outer.lo x) false (outer.hi x)

    in_test : (x : w.Key) → Within w outer.lo outer.hi x → test x ≡ true
    in_test x m = tested (outer.lo x) (outer.hi x) m.0 m.1

    from_test : (x : w.Key) → test x ≡ true → Within w outer.lo outer.hi x
    from_test x t = untested (outer.lo x) (outer.hi x) t

    all_pass : (xs : List (w.Key × w.Content)) → ((a : w.Key × w.Content) → Has a xs → test a.0 ≡ true) → only (λ a. test a.0) xs ≡ xs
    all_pass xs m = only_all (λ (a : w.Key × w.Content). test a.0) xs m

    outside : (a : w.Key × w.Content) → test a.0 ≡ false → F a ≡ []
    outside a e =
        ap (each (λ b. pair a b ∷ []))
        (only_none (passes a) all_inner (λ b m. ⊎_elim
        (λ (t : passes a b ≡ true). absurd (both_ways (test a.0) e (in_test a.0 (within a b t).0)))
        (λ t. t)
        (cases_Bool (passes a b))))
