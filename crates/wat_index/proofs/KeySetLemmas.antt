-- What stands before a key and behind it, and lists of keys in strict order.
use Rattle.std.proofs.Common.{◌≡◌, ◌≢◌, Bool, true, false, ◌&&◌, cond, List, [], ◌∷◌, ◌++◌, ◌⊎◌, filter, refl, sym, ap, ◌∙◌, subst, inl, inr, ⊎_elim}
use Rattle.std.specs.Prelude.{◌↔◌}
use Rattle.std.specs.List.{list_all}
use Rattle.std.specs.declared.cmp.Ordering.{Ordering}
use Rattle.std.specs.declared.cmp.Ordering.TheVariants.{Less, Equal, Greater}
use Rattle.std.specs.Ordering.{is_lt, is_gt, ordering_reverse}
use Rattle.std.proofs.lemmas.Bool.{and_parts, both_ways}
use Rattle.wat_list.specs.Has.{Has, HasSame}
use Rattle.wat_list.specs.Rising.{rising}
use Rattle.wat_list.proofs.Members.{has_cases, has_left, has_right, has_filter, filter_has, all_has}
use Rattle.wat_value.specs.Order.{key_cmp}
use Rattle.wat_value.specs.OrderLaws.{key_cmp_total, key_cmp_level, key_cmp_refl}
use Rattle.wat_index.specs.KeySets.{Key, before, behind, with_key, without_key}

-- ---- the order of two keys

pub less_is : (o : Ordering) → is_lt o ≡ true → o ≡ Less
less_is Less h = refl
less_is Equal h = cc
less_is Greater h = cc

pub greater_is : (o : Ordering) → is_gt o ≡ true → o ≡ Greater
greater_is Less h = cc
greater_is Equal h = cc
greater_is Greater h = refl

-- one key is behind another that is before it
pub turned : (a b : Key) → is_gt (key_cmp a b) ≡ is_lt (key_cmp b a)
turned a b = ap is_gt (key_cmp_total.antisymm a b) ∙ by (key_cmp b a)
  where
    by : (o : Ordering) → is_gt (ordering_reverse o) ≡ is_lt o
    by Less = refl
    by Equal = refl
    by Greater = refl

pub less_trans : (a b c : Key) → is_lt (key_cmp a b) ≡ true → is_lt (key_cmp b c) ≡ true → is_lt (key_cmp a c) ≡ true
less_trans a b c h k = ap is_lt (key_cmp_total.trans a b c (less_is (key_cmp a b) h) (less_is (key_cmp b c) k))

pub not_itself : (a b : Key) → is_lt (key_cmp a b) ≡ true → a ≡ b → ⊥
not_itself a b h e = both_ways (is_lt (key_cmp b b)) (ap is_lt (key_cmp_refl b)) (ap (λ x. is_lt (key_cmp x b)) (sym e) ∙ h)

pub not_back : (a b : Key) → is_lt (key_cmp a b) ≡ true → is_lt (key_cmp b a) ≡ true → ⊥
not_back a b h k = not_itself a a (less_trans a b a h k) refl

-- ---- members

-- where a key stands to another
pub data Stand (other key : Key) : Type 0 where
  is_before : is_lt (key_cmp other key) ≡ true → Stand other key
  is_it : other ≡ key → Stand other key
  is_behind : is_gt (key_cmp other key) ≡ true → Stand other key

pub stand : (other key : Key) → Stand other key
stand other key = by (key_cmp other key) refl
  where
    by : (o : Ordering) → key_cmp other key ≡ o → Stand other key
    by Less e = is_before (ap is_lt e)
    by Equal e = is_it (key_cmp_level other key e)
    by Greater e = is_behind (ap is_gt e)

pub has_with : (key other : Key) (keys : List Key) → Has other (with_key key keys) ↔ ((other ≡ key) ⊎ Has other keys)
has_with key other keys = (there, back)
  where
    there : Has other (with_key key keys) → (other ≡ key) ⊎ Has other keys
    there h = ⊎_elim
        (λ (m : Has other (before key keys)). inr (has_filter (λ k. is_lt (key_cmp k key)) other keys m).0)
        (λ (m : Has other (key ∷ behind key keys)). ⊎_elim
        (λ (e : key ≡ other). inl (sym e))
        (λ (n : Has other (behind key keys)). inr (has_filter (λ k. is_gt (key_cmp k key)) other keys n).0)
        m)
        (has_cases other (before key keys) (key ∷ behind key keys) h)

    placed : Has other keys → Stand other key → Has other (with_key key keys)
    placed m (is_before e) = has_left other (before key keys) (key ∷ behind key keys) (filter_has (λ k. is_lt (key_cmp k key)) other keys m e)
    placed m (is_it e) = has_right other (before key keys) (key ∷ behind key keys) (inl (sym e))
    placed m (is_behind e) = has_right other (before key keys) (key ∷ behind key keys) (inr (filter_has (λ k. is_gt (key_cmp k key)) other keys m e))

    back : (other ≡ key) ⊎ Has other keys → Has other (with_key key keys)
    back (inl e) = has_right other (before key keys) (key ∷ behind key keys) (inl (sym e))
    back (inr m) = placed m (stand other key)

pub has_without : (key other : Key) (keys : List Key) → Has other (without_key key keys) ↔ (Has other keys × (other ≢ key))
has_without key other keys = (there, back)
  where
    there : Has other (without_key key keys) → Has other keys × (other ≢ key)
    there h = ⊎_elim
        (λ (m : Has other (before key keys)). let r = has_filter (λ k. is_lt (key_cmp k key)) other keys m in (r.0, not_itself other key r.1))
        (λ (m : Has other (behind key keys)). let r = has_filter (λ k. is_gt (key_cmp k key)) other keys m in (r.0, λ e. not_itself key other (sym (turned other key) ∙ r.1) (sym e)))
        (has_cases other (before key keys) (behind key keys) h)

    placed : Has other keys → other ≢ key → Stand other key → Has other (without_key key keys)
    placed m ne (is_before e) = has_left other (before key keys) (behind key keys) (filter_has (λ k. is_lt (key_cmp k key)) other keys m e)
    placed m ne (is_it e) = absurd (ne e)
    placed m ne (is_behind e) = has_right other (before key keys) (behind key keys) (filter_has (λ k. is_gt (key_cmp k key)) other keys m e)

    back : Has other keys × (other ≢ key) → Has other (without_key key keys)
    back h = placed h.0 h.1 (stand other key)

-- ---- strict order

all_filtered : (p q : Key → Bool) (keys : List Key) → list_all q keys ≡ true → list_all q (filter p keys) ≡ true
all_filtered p q [] h = refl
all_filtered p q (k ∷ keys) h =
    let parts = and_parts (q k) (list_all q keys) h in
    by (p k) parts.0 (all_filtered p q keys parts.1)
  where
    by : (b : Bool) → q k ≡ true → list_all q (filter p keys) ≡ true → list_all q (cond b (k ∷ filter p keys) (filter p keys)) ≡ true
    by true here rest = ap (λ z. z && list_all q (filter p keys)) here ∙ rest
    by false here rest = rest

rising_filtered : (p : Key → Bool) (keys : List Key) → rising key_cmp keys ≡ true → rising key_cmp (filter p keys) ≡ true
rising_filtered p [] h = refl
rising_filtered p (k ∷ keys) h =
    let parts = and_parts (list_all (λ other. is_lt (key_cmp k other)) keys) (rising key_cmp keys) h in
    by (p k) parts.0 (rising_filtered p keys parts.1)
  where
    by : (b : Bool) → list_all (λ other. is_lt (key_cmp k other)) keys ≡ true → rising key_cmp (filter p keys) ≡ true → rising key_cmp (cond b (k ∷ filter p keys) (filter p keys)) ≡ true
    by true here rest = ap (λ z. z && rising key_cmp (filter p keys)) (all_filtered p (λ other. is_lt (key_cmp k other)) keys here) ∙ rest
    by false here rest = rest

all_of : (p : Key → Bool) (keys : List Key) → ((k : Key) → Has k keys → p k ≡ true) → list_all p keys ≡ true
all_of p [] h = refl
all_of p (k ∷ keys) h = ap (λ z. z && list_all p keys) (h k (inl refl)) ∙ all_of p keys (λ k m. h k (inr m))

rising_joined : (front back : List Key) → rising key_cmp front ≡ true → rising key_cmp back ≡ true → ((a b : Key) → Has a front → Has b back → is_lt (key_cmp a b) ≡ true) → rising key_cmp (front ++ back) ≡ true
rising_joined [] back f b apart = b
rising_joined (k ∷ front) back f b apart =
    let parts = and_parts (list_all (λ other. is_lt (key_cmp k other)) front) (rising key_cmp front) f in
    let first : list_all (λ other. is_lt (key_cmp k other)) (front ++ back) ≡ true =
    all_of (λ other. is_lt (key_cmp k other)) (front ++ back) (λ other h. ⊎_elim
    (λ (m : Has other front). all_has (λ other. is_lt (key_cmp k other)) other front parts.0 m)
    (λ (m : Has other back). apart k other (inl refl) m)
    (has_cases other front back h)) in
    ap (λ z. z && rising key_cmp (front ++ back)) first ∙ rising_joined front back parts.1 b (λ a c m n. apart a c (inr m) n)

is_behind_of : (key other : Key) (keys : List Key) → Has other (behind key keys) → is_lt (key_cmp key other) ≡ true
is_behind_of key other keys m = sym (turned other key) ∙ (has_filter (λ k. is_gt (key_cmp k key)) other keys m).1

is_before_of : (key other : Key) (keys : List Key) → Has other (before key keys) → is_lt (key_cmp other key) ≡ true
is_before_of key other keys m = (has_filter (λ k. is_lt (key_cmp k key)) other keys m).1

pub rising_with : (key : Key) (keys : List Key) → rising key_cmp keys ≡ true → rising key_cmp (with_key key keys) ≡ true
rising_with key keys h = rising_joined (before key keys) (key ∷ behind key keys)
    (rising_filtered (λ k. is_lt (key_cmp k key)) keys h)
    (ap (λ z. z && rising key_cmp (behind key keys)) (all_of (λ other. is_lt (key_cmp key other)) (behind key keys) (λ k m. is_behind_of key k keys m)) ∙ rising_filtered (λ k. is_gt (key_cmp k key)) keys h)
    (λ a b m n. ⊎_elim
    (λ (e : key ≡ b). subst (λ z. is_lt (key_cmp a z) ≡ true) e (is_before_of key a keys m))
    (λ (k : Has b (behind key keys)). less_trans a key b (is_before_of key a keys m) (is_behind_of key b keys k))
    n)

pub rising_without : (key : Key) (keys : List Key) → rising key_cmp keys ≡ true → rising key_cmp (without_key key keys) ≡ true
rising_without key keys h = rising_joined (before key keys) (behind key keys)
    (rising_filtered (λ k. is_lt (key_cmp k key)) keys h)
    (rising_filtered (λ k. is_gt (key_cmp k key)) keys h)
    (λ a b m n. less_trans a key b (is_before_of key a keys m) (is_behind_of key b keys n))

-- ---- lists in strict order with the same members

pub same_sets : (a b : List Key) → rising key_cmp a ≡ true → rising key_cmp b ≡ true → HasSame a b → a ≡ b
same_sets [] [] ra rb same = refl
same_sets [] (y ∷ b) ra rb same = absurd ((same y).1 (inl refl))
same_sets (x ∷ a) [] ra rb same = absurd ((same x).0 (inl refl))
same_sets (x ∷ a) (y ∷ b) ra rb same = ap (λ z. z ∷ a) heads ∙ ap (λ z. y ∷ z) (same_sets a b pa.1 pb.1 (λ z. (tail_there z, tail_back z)))
  where
    pa : (list_all (λ other. is_lt (key_cmp x other)) a ≡ true) × (rising key_cmp a ≡ true)
    pa = and_parts (list_all (λ other. is_lt (key_cmp x other)) a) (rising key_cmp a) ra

    pb : (list_all (λ other. is_lt (key_cmp y other)) b ≡ true) × (rising key_cmp b ≡ true)
    pb = and_parts (list_all (λ other. is_lt (key_cmp y other)) b) (rising key_cmp b) rb

    below_a : (z : Key) → Has z a → is_lt (key_cmp x z) ≡ true
    below_a z m = all_has (λ other. is_lt (key_cmp x other)) z a pa.0 m

    below_b : (z : Key) → Has z b → is_lt (key_cmp y z) ≡ true
    below_b z m = all_has (λ other. is_lt (key_cmp y other)) z b pb.0 m

    heads : x ≡ y
    heads = ⊎_elim
        (λ (e : y ≡ x). sym e)
        (λ (m : Has x b). ⊎_elim (λ (e : x ≡ y). e) (λ (n : Has y a). absurd (not_back y x (below_b x m) (below_a y n))) ((same y).1 (inl refl)))
        ((same x).0 (inl refl))

    tail_there : (z : Key) → Has z a → Has z b
    tail_there z m = ⊎_elim (λ (e : y ≡ z). absurd (not_itself x z (below_a z m) (heads ∙ e))) (λ (n : Has z b). n) ((same z).0 (inr m))

    tail_back : (z : Key) → Has z b → Has z a
    tail_back z m = ⊎_elim (λ (e : x ≡ z). absurd (not_itself y z (below_b z m) (sym heads ∙ e))) (λ (n : Has z a). n) ((same z).1 (inr m))

pub with_there : (key : Key) (keys : List Key) → rising key_cmp keys ≡ true → Has key keys → with_key key keys ≡ keys
with_there key keys h m = same_sets (with_key key keys) keys (rising_with key keys h) h (λ z. (
  λ n. ⊎_elim (λ (e : z ≡ key). subst (λ w. Has w keys) (sym e) m) (λ (k : Has z keys). k) ((has_with key z keys).0 n),
  λ n. (has_with key z keys).1 (inr n),
))

pub without_missing : (key : Key) (keys : List Key) → rising key_cmp keys ≡ true → (Has key keys → ⊥) → without_key key keys ≡ keys
without_missing key keys h off = same_sets (without_key key keys) keys (rising_without key keys h) h (λ z. (
  λ n. ((has_without key z keys).0 n).0,
  λ n. (has_without key z keys).1 (n, λ e. off (subst (λ w. Has w keys) e n)),
))
