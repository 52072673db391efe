-- The rows that a statement met, in the order in which it changes them, rise: each is changed once.
use Rattle.std.proofs.Common.{◌≡◌, Bool, true, false, cond, List, [], ◌∷◌, map, ◌⊎◌, refl, sym, ap, ◌∙◌, subst, inl, inr, ⊎_elim}
use Rattle.std.specs.List.{list_all}
use Rattle.std.specs.declared.cmp.Ordering.{Ordering}
use Rattle.std.specs.declared.cmp.Ordering.TheVariants.{Less, Equal, Greater}
use Rattle.std.specs.Ordering.{is_lt, is_gt, ordering_reverse}
use Rattle.std.proofs.lemmas.Bool.{and_parts, and_from}
use Rattle.sqlite_keyed.specs.Lists.{insert_sorted, sort_by}
use Rattle.wat_list.specs.Has.{Has, IsOnce}
use Rattle.wat_list.specs.Rising.{rising}
use Rattle.wat_list.proofs.Members.{map_has, all_has}
use Rattle.wat_value.specs.declared.value.Value.{Value}
use Rattle.wat_value.specs.Order.{key_cmp}
use Rattle.wat_value.specs.OrderLaws.{key_cmp_total, key_cmp_level}

all_from : {A : Type 0} (p : A → Bool) (xs : List A) → ((x : A) → Has x xs → p x ≡ true) → list_all p xs ≡ true
all_from p [] each = refl
all_from p (x ∷ xs) each = and_from (p x) (list_all p xs) (each x (inl refl)) (all_from p xs (λ y m. each y (inr m)))

module _ {X : Type 0} (k : X → List Value) where
  abbrev pub by_keys : X → X → Ordering
  by_keys a b = key_cmp (k a) (k b)

  turned : (x y : X) → by_keys x y ≡ Greater → is_lt (by_keys y x) ≡ true
  turned x y e = ap is_lt (key_cmp_total.antisymm (k y) (k x) ∙ ap ordering_reverse e)

  lt_is : (o : Ordering) → is_lt o ≡ true → o ≡ Less
  lt_is Less e = refl
  lt_is Equal e = cc
  lt_is Greater e = cc

  inserted_has : (x y : X) (xs : List X) → Has y (insert_sorted by_keys x xs) → (x ≡ y) ⊎ Has y xs
  inserted_has x y [] h = ⊎_elim (λ (e : x ≡ y). inl e) (λ n. absurd n) h
  inserted_has x y (z ∷ zs) h = by (is_gt (by_keys x z)) h (λ n. inserted_has x y zs n)
    where
      by : (b : Bool) → Has y (cond b (z ∷ insert_sorted by_keys x zs) (x ∷ z ∷ zs)) → (Has y (insert_sorted by_keys x zs) → (x ≡ y) ⊎ Has y zs) → (x ≡ y) ⊎ Has y (z ∷ zs)
      by true m deeper = ⊎_elim (λ (e : z ≡ y). inr (inl e)) (λ (n : Has y (insert_sorted by_keys x zs)). ⊎_elim (λ (e : x ≡ y). inl e) (λ (o : Has y zs). inr (inr o)) (deeper n)) m
      by false m deeper = m

  pub sorted_has : (y : X) (xs : List X) → Has y (sort_by by_keys xs) → Has y xs
  sorted_has y [] h = h
  sorted_has y (x ∷ xs) h = ⊎_elim (λ (e : x ≡ y). inl e) (λ (m : Has y (sort_by by_keys xs)). inr (sorted_has y xs m)) (inserted_has x y (sort_by by_keys xs) h)

  insert_rises : (x : X) (xs : List X) → ((y : X) → Has y xs → k x ≡ k y → ⊥) → rising by_keys xs ≡ true → rising by_keys (insert_sorted by_keys x xs) ≡ true
  insert_rises x [] apart up = refl
  insert_rises x (y ∷ ys) apart up = by (by_keys x y) refl (λ a u. insert_rises x ys a u)
    where
      p : (list_all (λ other. is_lt (by_keys y other)) ys ≡ true) × (rising by_keys ys ≡ true)
      p = and_parts (list_all (λ other. is_lt (by_keys y other)) ys) (rising by_keys ys) up

      by : (o : Ordering) → by_keys x y ≡ o → (((z : X) → Has z ys → k x ≡ k z → ⊥) → rising by_keys ys ≡ true → rising by_keys (insert_sorted by_keys x ys) ≡ true) → rising by_keys (cond (is_gt o) (y ∷ insert_sorted by_keys x ys) (x ∷ y ∷ ys)) ≡ true
      by Less e deeper = and_from (list_all (λ other. is_lt (by_keys x other)) (y ∷ ys)) (rising by_keys (y ∷ ys))
          (all_from (λ other. is_lt (by_keys x other)) (y ∷ ys) (λ z m. ⊎_elim
          (λ (s : y ≡ z). subst (λ (w : X). is_lt (by_keys x w) ≡ true) s (ap is_lt e))
          (λ (n : Has z ys). ap is_lt (key_cmp_total.trans (k x) (k y) (k z) e (lt_is (by_keys y z) (all_has (λ other. is_lt (by_keys y other)) z ys p.0 n))))
          m))
          up
      by Equal e deeper = absurd (apart y (inl refl) (key_cmp_level (k x) (k y) e))
      by Greater e deeper = and_from (list_all (λ other. is_lt (by_keys y other)) (insert_sorted by_keys x ys)) (rising by_keys (insert_sorted by_keys x ys))
          (all_from (λ other. is_lt (by_keys y other)) (insert_sorted by_keys x ys) (λ z m. ⊎_elim
          (λ (s : x ≡ z). subst (λ (w : X). is_lt (by_keys y w) ≡ true) s (turned x y e))
          (λ (n : Has z ys). all_has (λ other. is_lt (by_keys y other)) z ys p.0 n)
          (inserted_has x z ys m)))
          (deeper (λ z m. apart z (inr m)) p.1)

  pub sort_rises : (xs : List X) → IsOnce (map k xs) → rising by_keys (sort_by by_keys xs) ≡ true
  sort_rises [] once = refl
  sort_rises (x ∷ xs) once = insert_rises x (sort_by by_keys xs) (λ y m e. once.0 (subst (λ z. Has z (map k xs)) (sym e) (map_has k y xs (sorted_has y xs m)))) (sort_rises xs once.1)

-- one after another by other keys that are the same
pub rise_mapped : {X Y : Type 0} (k : X → List Value) (h : Y → List Value) (f : X → Y) (xs : List X) → ((x : X) → Has x xs → k x ≡ h (f x)) → rising (by_keys k) xs ≡ true → rising (by_keys h) (map f xs) ≡ true
rise_mapped k h f [] same up = refl
rise_mapped {X} k h f (x ∷ xs) same up =
    let p = and_parts (list_all (λ other. is_lt (by_keys k x other)) xs) (rising (by_keys k) xs) up in
    and_from (list_all (λ other. is_lt (by_keys h (f x) other)) (map f xs)) (rising (by_keys h) (map f xs))
    (all_from (λ other. is_lt (by_keys h (f x) other)) (map f xs) (λ y m.
    let r = Rattle.wat_list.proofs.Members.has_map f y xs m in
    subst (λ (z : _). is_lt (by_keys h (f x) z) ≡ true) r.2
    (subst (λ z. is_lt (key_cmp z (h (f r.0))) ≡ true) (same x (inl refl)) (subst (λ z. is_lt (key_cmp (k x) z) ≡ true) (same r.0 (inr r.1)) (all_has (λ other. is_lt (by_keys k x other)) r.0 xs p.0 r.1)))))
    (rise_mapped k h f xs (λ z m. same z (inr m)) p.1)

pub map_same : {X : Type 0} (k h : X → List Value) (xs : List X) → ((x : X) → Has x xs → k x ≡ h x) → map k xs ≡ map h xs
map_same k h [] same = refl
map_same k h (x ∷ xs) same = λ j. same x (inl refl) j ∷ map_same k h xs (λ y m. same y (inr m)) j
