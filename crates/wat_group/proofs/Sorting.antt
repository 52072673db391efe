-- A list has one stable order, and std's `sort_by` gives it.
use Rattle.std.proofs.Common.{◌≡◌, zero, suc, Bool, true, false, not, ◌&&◌, cond, List, [], ◌∷◌, filter, refl, sym, ap, ◌∙◌, subst, arith, add-one, Ordering, Less, Equal, Greater, is_lt, is_gt, is_eq, true≢false, IsSorted}
use Rattle.std.specs.List.{AllByRecursion}
use Rattle.std.specs.List.Sorted.{IsStable, IsSortedBy, IsStableBy, ties}
use Rattle.std.specs.Cmp.{IsTotalOrder, IsStrictWeakOrder}
use Rattle.std.specs.Fn.{Called, ComparesAs}
use Rattle.std.specs.Ordering.{ordering_reverse}
use denote.Param.Members.{Mut}
use denote.Ref.{Bor}
use Rattle.std.proofs.lemmas.Cmp.{tied_itself, upto}
use Rattle.std.proofs.lemmas.Fn.{always_returns_same}
use Rattle.std.proofs.lemmas.List.Sorted.{ranks_by}
use Rattle.sqlite_trees.specs.Tree.{IsAscending}
use Rattle.sqlite_keyed.specs.Lists.{sort_by, insert_sorted}
use Rattle.sqlite_keyed.proofs.ListLemmas.{all_weaker, all-filter}

abbrev pub AtMost : {X : Type 0} → (X → X → Ordering) → X → X → Type 0
AtMost cmp a b = is_gt (cmp a b) ≡ false

-- the two are level
abbrev pub level : {X : Type 0} → (X → X → Ordering) → X → X → Bool
level cmp a b = is_eq (cmp a b)

module _ {X : Type 0} (cmp : X → X → Ordering) (total : IsTotalOrder cmp) where
  -- ---- sorted lists ascend

  turned : (o : Ordering) → is_lt o ≡ false → is_gt (ordering_reverse o) ≡ false
  turned Less h = h
  turned Equal h = refl
  turned Greater h = refl

  below_all : (x : X) (ys : List X) → IsSorted cmp (x ∷ ys) → IsAscending (AtMost cmp) ys → AllByRecursion (AtMost cmp x) ys
  below_all x [] sorted up = tt
  below_all x (y ∷ ys) sorted up =
      let first : AtMost cmp x y = ap is_gt (total.antisymm x y) ∙ turned _ (sorted 0 x (omega arith) (omega arith)) in
      (first, all_weaker _ (AtMost cmp x) (λ z. upto total x y z first) ys up.0)

  pub ascending_from_sorted : (xs : List X) → IsSorted cmp xs → IsAscending (AtMost cmp) xs
  ascending_from_sorted [] sorted = tt
  ascending_from_sorted (x ∷ xs) sorted =
      let tail : IsSorted cmp xs = λ k d p q. rw add-one (rw add-one at (sorted (suc k) d (omega arith) (omega arith))) in
      let up = ascending_from_sorted xs tail in
      (below_all x xs sorted up, up)

  turned_back : (o : Ordering) → is_gt o ≡ false → is_lt (ordering_reverse o) ≡ false
  turned_back Less h = refl
  turned_back Equal h = refl
  turned_back Greater h = h

  pub sorted_from_ascending : (xs : List X) → IsAscending (AtMost cmp) xs → IsSorted cmp xs
  sorted_from_ascending [] up k d p q = absurd (omega arith)
  sorted_from_ascending (x ∷ []) up k d p q = absurd (omega arith)
  sorted_from_ascending (x ∷ y ∷ xs) up zero d p q = ap is_lt (total.antisymm y x) ∙ turned_back (cmp x y) up.0.0
  sorted_from_ascending (x ∷ y ∷ xs) up (suc k) d p q = rw add-one (rw add-one at (sorted_from_ascending (y ∷ xs) up.1 k d (omega arith) (omega arith)))

  -- ---- `sort_by` ascends

  at_most_back : (x y : X) → cmp x y ≡ Greater → AtMost cmp y x
  at_most_back x y e = ap is_gt (total.antisymm y x ∙ ap ordering_reverse e)

  all-insert_sorted : (P : X → Type 0) (new : X) (xs : List X) → P new → AllByRecursion P xs → AllByRecursion P (insert_sorted cmp new xs)
  all-insert_sorted P new [] h all = (h, tt)
  all-insert_sorted P new (x ∷ xs) h all =
      elim (is_gt (cmp new x)) as (λ b. AllByRecursion P (cond b (x ∷ insert_sorted cmp new xs) (new ∷ x ∷ xs))) [ true ↦ (all.0, all-insert_sorted P new xs h all.1) | false ↦ (h, all) ]

  ascending-insert_sorted : (new : X) (xs : List X) → IsAscending (AtMost cmp) xs → IsAscending (AtMost cmp) (insert_sorted cmp new xs)
  ascending-insert_sorted new [] up = (tt, tt)
  ascending-insert_sorted new (x ∷ xs) up = go (cmp new x) refl (ascending-insert_sorted new xs up.1)
    where
      go : (o : Ordering) → cmp new x ≡ o → IsAscending (AtMost cmp) (insert_sorted cmp new xs) → IsAscending (AtMost cmp) (cond (is_gt o) (x ∷ insert_sorted cmp new xs) (new ∷ x ∷ xs))
      go Less e more = ((ap is_gt e, all_weaker _ (AtMost cmp new) (λ z. upto total new x z (ap is_gt e)) xs up.0), up)
      go Equal e more = ((ap is_gt e, all_weaker _ (AtMost cmp new) (λ z. upto total new x z (ap is_gt e)) xs up.0), up)
      go Greater e more = (all-insert_sorted (AtMost cmp x) new xs (at_most_back new x e) up.0, more)

  pub ascending-sort_by : (xs : List X) → IsAscending (AtMost cmp) (sort_by cmp xs)
  ascending-sort_by [] = tt
  ascending-sort_by (x ∷ xs) = ascending-insert_sorted x _ (ascending-sort_by xs)

  -- ---- `sort_by` is stable

  not_both : (x a b : X) → level cmp x a ≡ true → level cmp x b ≡ true → cmp a b ≡ Greater → true ≡ false
  not_both x a b p q e = go (cmp x a) (cmp x b) refl refl p q
    where
      go : (r s : Ordering) → cmp x a ≡ r → cmp x b ≡ s → is_eq r ≡ true → is_eq s ≡ true → true ≡ false
      go Equal Equal u v p q = let same = total.congr x a b u in cc
      go Less s u v p q = absurd (true≢false (sym p))
      go Greater s u v p q = absurd (true≢false (sym p))
      go r Less u v p q = absurd (true≢false (sym q))
      go r Greater u v p q = absurd (true≢false (sym q))

  turn : (x new y : X) (l : List X) → cmp new y ≡ Greater
      → cond (level cmp x y) (y ∷ cond (level cmp x new) (new ∷ l) l) (cond (level cmp x new) (new ∷ l) l) ≡ cond (level cmp x new) (new ∷ cond (level cmp x y) (y ∷ l) l) (cond (level cmp x y) (y ∷ l) l)
  turn x new y l e = go (level cmp x new) (level cmp x y) refl refl
    where
      go : (a b : Bool) → level cmp x new ≡ a → level cmp x y ≡ b → cond b (y ∷ cond a (new ∷ l) l) (cond a (new ∷ l) l) ≡ cond a (new ∷ cond b (y ∷ l) l) (cond b (y ∷ l) l)
      go true true p q = absurd (true≢false (not_both x new y p q e))
      go true false p q = refl
      go false true p q = refl
      go false false p q = refl

  stable-insert_sorted : (x new : X) (ys : List X) → filter (level cmp x) (insert_sorted cmp new ys) ≡ filter (level cmp x) (new ∷ ys)
  stable-insert_sorted x new [] = refl
  stable-insert_sorted x new (y ∷ ys) = go (cmp new y) refl (stable-insert_sorted x new ys)
    where
      go : (o : Ordering) → cmp new y ≡ o → filter (level cmp x) (insert_sorted cmp new ys) ≡ filter (level cmp x) (new ∷ ys)
          → filter (level cmp x) (cond (is_gt o) (y ∷ insert_sorted cmp new ys) (new ∷ y ∷ ys)) ≡ filter (level cmp x) (new ∷ y ∷ ys)
      go Less e more = refl
      go Equal e more = refl
      go Greater e more = ap (λ l. cond (level cmp x y) (y ∷ l) l) more ∙ turn x new y (filter (level cmp x) ys) e

  pub stable-sort_by : (x : X) (xs : List X) → filter (level cmp x) (sort_by cmp xs) ≡ filter (level cmp x) xs
  stable-sort_by x [] = refl
  stable-sort_by x (y ∷ xs) = stable-insert_sorted x y (sort_by cmp xs) ∙ ap (λ l. cond (level cmp x y) (y ∷ l) l) (stable-sort_by x xs)

  -- ---- two ascending lists with the same items at each level are the same

  level_itself : (x : X) → level cmp x x ≡ true
  level_itself x = ap is_eq (tied_itself total x)

  first_at_most : (y z : X) (ys zs : List X) → IsAscending (AtMost cmp) (z ∷ zs) → filter (level cmp y) (y ∷ ys) ≡ filter (level cmp y) (z ∷ zs) → AtMost cmp z y
  first_at_most y z ys zs up same =
      let all : AllByRecursion (AtMost cmp z) (z ∷ zs) = (ap is_gt (tied_itself total z), up.0) in
      let kept = all-filter (AtMost cmp z) (level cmp y) (z ∷ zs) all in
      let here : filter (level cmp y) (z ∷ zs) ≡ y ∷ filter (level cmp y) ys = sym same ∙ ap (λ b. cond b (y ∷ filter (level cmp y) ys) (filter (level cmp y) ys)) (level_itself y) in
      (subst (AllByRecursion (AtMost cmp z)) here kept).0

  both_at_most : (y z : X) → AtMost cmp y z → AtMost cmp z y → cmp y z ≡ Equal
  both_at_most y z p q = go (cmp y z) (cmp z y) refl (total.antisymm z y) p q
    where
      go : (r s : Ordering) → cmp y z ≡ r → s ≡ ordering_reverse (cmp y z) → is_gt r ≡ false → is_gt s ≡ false → cmp y z ≡ Equal
      go Equal s u v p q = u
      go Greater s u v p q = absurd (true≢false p)
      go Less s u v p q = absurd (true≢false (ap is_gt (sym (v ∙ ap ordering_reverse u)) ∙ q))

  same_tails : (b : Bool) (y : X) (l m : List X) → cond b (y ∷ l) l ≡ cond b (y ∷ m) m → l ≡ m
  same_tails true y l m e = cc
  same_tails false y l m e = e

  pub unique : (ys zs : List X) → IsAscending (AtMost cmp) ys → IsAscending (AtMost cmp) zs → ((x : X) → filter (level cmp x) ys ≡ filter (level cmp x) zs) → ys ≡ zs
  unique [] [] up down same = refl
  unique [] (z ∷ zs) up down same = let e = level_itself z in let h : [] ≡ z ∷ filter (level cmp z) zs = same z ∙ ap (λ b. cond b (z ∷ filter (level cmp z) zs) (filter (level cmp z) zs)) e in cc
  unique (y ∷ ys) [] up down same = let e = level_itself y in let h : y ∷ filter (level cmp y) ys ≡ [] = sym (ap (λ b. cond b (y ∷ filter (level cmp y) ys) (filter (level cmp y) ys)) e) ∙ same y in cc
  unique (y ∷ ys) (z ∷ zs) up down same =
      let back = first_at_most y z ys zs down (same y) in
      let forth = first_at_most z y zs ys up (sym (same z)) in
      let tied : level cmp y z ≡ true = ap is_eq (both_at_most y z forth back) in
      let heads : y ∷ filter (level cmp y) ys ≡ z ∷ filter (level cmp y) zs =
      sym (ap (λ b. cond b (y ∷ filter (level cmp y) ys) (filter (level cmp y) ys)) (level_itself y)) ∙ same y ∙ ap (λ b. cond b (z ∷ filter (level cmp y) zs) (filter (level cmp y) zs)) tied in
      let head : y ≡ z = cc in
      let tails : (x : X) → filter (level cmp x) ys ≡ filter (level cmp x) zs =
      λ x. same_tails (level cmp x y) y _ _ (same x ∙ ap (λ w. cond (level cmp x w) (w ∷ filter (level cmp x) zs) (filter (level cmp x) zs)) (sym head)) in
      let rest = unique ys zs up.1 down.1 tails in
      cc

  -- ---- what std's sorts say

  tie_is : (x y : X) → ties (λ a b. is_lt (cmp a b)) x y ≡ level cmp x y
  tie_is x y = go (cmp x y) (cmp y x) refl (total.antisymm y x)
    where
      go : (r s : Ordering) → cmp x y ≡ r → s ≡ ordering_reverse (cmp x y) → not (is_lt r) && not (is_lt s) ≡ is_eq r
      go Less s u v = refl
      go Equal s u v = ap (λ o. not (is_lt o)) (v ∙ ap ordering_reverse u)
      go Greater s u v = ap (λ o. not (is_lt o)) (v ∙ ap ordering_reverse u)

  pub stable_filter : (xs ys : List X) → IsStable cmp xs ys → (x : X) → filter (level cmp x) ys ≡ filter (level cmp x) xs
  stable_filter xs ys stable x = sym (λ i. filter (λ y. tie_is x y i) ys) ∙ stable x ∙ (λ i. filter (λ y. tie_is x y i) xs)

  pub stable_order : (xs : List X) → IsStable cmp xs (sort_by cmp xs)
  stable_order xs x = (λ i. filter (λ y. tie_is x y i) (sort_by cmp xs)) ∙ stable-sort_by x xs ∙ sym (λ i. filter (λ y. tie_is x y i) xs)

  pub sorted_is : (xs ys : List X) → IsSorted cmp ys → IsStable cmp xs ys → ys ≡ sort_by cmp xs
  sorted_is xs ys sorted stable =
      unique ys (sort_by cmp xs) (ascending_from_sorted ys sorted) (ascending-sort_by xs) (λ x. stable_filter xs ys stable x ∙ sym (stable-sort_by x xs))

  -- from the clauses of `sort_by`, where each call compares by `cmp`
  pub from_sort_by : {F : Type 0} {g : Mut F (Bor X × (Bor X × Unit {0})) Ordering} {f : F} (xs ys : List X)
      → ((lt : X → X → Bool) → IsStrictWeakOrder lt → ComparesAs g lt f → IsSortedBy lt ys)
      → ((lt : X → X → Bool) → IsStrictWeakOrder lt → ComparesAs g lt f → IsStableBy lt xs ys)
      → ((a : Bor X × (Bor X × Unit {0})) (r : Ordering) (f' : F) → Called g f a r f' → (r ≡ cmp a.0.now a.1.0.now) × (f' ≡ f)) → ys ≡ sort_by cmp xs
  from_sort_by {g = g} {f = f} xs ys sorted stable h =
      let order = ranks_by total (λ x. x) in
      let compares : ComparesAs g (λ x y. is_lt (cmp x y)) f = always_returns_same g (λ a r. is_lt r ≡ is_lt (cmp a.0.now a.1.0.now)) f (λ a r f' k. (ap is_lt (h a r f' k).0, (h a r f' k).1)) in
      sorted_is xs ys (sorted _ order compares) (stable _ order compares)
