-- What a binary search finds among keys in strict order.
use Rattle.std.proofs.Common.{◌≡◌, ℕ, zero, suc, ◌<◌, ◌≤◌, Bool, true, false, not, cond, List, [], ◌∷◌, ◌++◌, length, take, drop, get_or, Some, refl, sym, ap, ◌∙◌, subst, ⊎_elim, arith}
use Rattle.std.specs.Prelude.{slice_get, insert, remove, Result, Ok, Err, MatchResult}
use Rattle.std.specs.List.{find, list_all, HoldsAt}
use Rattle.std.specs.List.Sorted.{IsPartitionedBy, IsPartitionPoint, IsNonDecreasingBy, IsSearchInRange, IsBinarySearchResult}
use Rattle.std.specs.declared.cmp.Ordering.{Ordering}
use Rattle.std.specs.declared.cmp.Ordering.TheVariants.{Less, Equal, Greater}
use Rattle.std.specs.Ordering.{is_lt, is_gt, ordering_index}
use Rattle.std.proofs.lemmas.Bool.{and_parts, both_ways, not-true, cases_lt}
use Rattle.std.proofs.lemmas.List.{take-append-drop, set_split, set-get_or}
use Rattle.wat_list.specs.Rising.{rising}
use Rattle.wat_value.specs.declared.bound.Bound.{Bound}
use Rattle.wat_value.specs.Bounds.{is_above}
use Rattle.wat_value.specs.Order.{key_cmp}
use Rattle.wat_value.specs.OrderLaws.{key_cmp_total, key_cmp_level}
use Rattle.wat_index.specs.KeySets.{Key, before, behind, with_key, without_key}
use Rattle.wat_index.proofs.Cuts.{before_bound}
use Rattle.wat_index.proofs.KeySetLemmas.{less_is, greater_is, turned}

-- ---- the first that passes

not-false : (b : Bool) → not b ≡ false → b ≡ true
not-false true h = refl
not-false false h = absurd (both_ways true h refl)

pub found_at : {X : Type 0} (p : X → Bool) (xs : List X) (i : ℕ) → IsPartitionPoint (λ y. not (p y) ≡ true) (λ y. not (p y) ≡ false) xs i → slice_get xs i ≡ find p xs
found_at p [] i h = refl
found_at p (x ∷ xs) zero h =
    let is : p x ≡ true = not-false (p x) (h.1 0 x (omega arith) (omega arith)) in
    sym (ap (λ t. cond t (Some x) (find p xs)) is)
found_at p (x ∷ xs) (suc i) h =
    let is : p x ≡ false = not-true (p x) (h.0 0 x (omega arith) (omega arith)) in
    found_at p xs i ((λ k d low high. h.0 (suc k) d (omega arith) (omega arith)), (λ k d low high. h.1 (suc k) d (omega arith) (omega arith)))
    ∙ sym (ap (λ t. cond t (Some x) (find p xs)) is)

-- ---- keys by their places

all_at : (p : Key → Bool) (keys : List Key) (k : ℕ) (d : Key) → list_all p keys ≡ true → k < length keys → p (get_or keys k d) ≡ true
all_at p [] k d h l = absurd (omega arith)
all_at p (x ∷ keys) zero d h l = (and_parts (p x) (list_all p keys) h).0
all_at p (x ∷ keys) (suc k) d h l = all_at p keys k d (and_parts (p x) (list_all p keys) h).1 (omega arith)

pub rising_at : (keys : List Key) (i j : ℕ) (d : Key) → rising key_cmp keys ≡ true → i < j → j < length keys → is_lt (key_cmp (get_or keys i d) (get_or keys j d)) ≡ true
rising_at [] i j d h l m = absurd (omega arith)
rising_at (x ∷ keys) i zero d h l m = absurd (omega arith)
rising_at (x ∷ keys) zero (suc j) d h l m = all_at (λ other. is_lt (key_cmp x other)) keys j d (and_parts (list_all (λ other. is_lt (key_cmp x other)) keys) (rising key_cmp keys) h).0 (omega arith)
rising_at (x ∷ keys) (suc i) (suc j) d h l m = rising_at keys i j d (and_parts (list_all (λ other. is_lt (key_cmp x other)) keys) (rising key_cmp keys) h).1 (omega arith) (omega arith)

-- the keys that a lower bound does not admit come first
pub cut_first : (bound : Bound) (keys : List Key) → rising key_cmp keys ≡ true → IsPartitionedBy (λ key. not (is_above bound key)) keys
cut_first bound keys up i j d l m h = ⊎_elim
    (λ (n : i < j). ap not (before_bound bound (get_or keys i d) (get_or keys j d) (rising_at keys i j d up n m) (not-true (is_above bound (get_or keys j d)) h)))
    (λ (n : j ≤ i). let e : i ≡ j = omega arith in subst (λ k. not (is_above bound (get_or keys k d)) ≡ true) (sym e) h)
    (cases_lt i j)

up_to_greater : (o : Ordering) → ordering_index o ≤ 2
up_to_greater Less = omega arith
up_to_greater Equal = omega arith
up_to_greater Greater = omega arith

-- a key before another answers no more than that one
lesser_answer : (a b key : Key) → is_lt (key_cmp a b) ≡ true → ordering_index (key_cmp a key) ≤ ordering_index (key_cmp b key)
lesser_answer a b key h = by (key_cmp b key) refl
  where
    least : (o p : Ordering) → o ≡ Less → ordering_index o ≤ ordering_index p
    least o p e = subst (λ z. ordering_index z ≤ ordering_index p) (sym e) (omega arith)

    by : (o : Ordering) → key_cmp b key ≡ o → ordering_index (key_cmp a key) ≤ ordering_index o
    by Less e = least (key_cmp a key) Less (key_cmp_total.trans a b key (less_is (key_cmp a b) h) e)
    by Equal e = least (key_cmp a key) Equal (subst (λ z. key_cmp a z ≡ Less) (key_cmp_level b key e) (less_is (key_cmp a b) h))
    by Greater e = up_to_greater (key_cmp a key)

-- against one key, keys in strict order answer Less, then at most once Equal, and then Greater
pub answers_rise : (key : Key) (keys : List Key) → rising key_cmp keys ≡ true → IsNonDecreasingBy (λ other. ordering_index (key_cmp other key)) keys
answers_rise key keys up i j d l m = ⊎_elim
    (λ (n : i < j). lesser_answer (get_or keys i d) (get_or keys j d) key (rising_at keys i j d up n m))
    (λ (n : j ≤ i). let e : i ≡ j = omega arith in subst (λ k. ordering_index (key_cmp (get_or keys i d) key) ≤ ordering_index (key_cmp (get_or keys k d) key)) e (omega arith))
    (cases_lt i j)

-- ---- where a key is, or would go

pub record Split (key : Key) (keys front back : List Key) : Type 0 where
  pub front_is : before key keys ≡ front
  pub back_is : behind key keys ≡ back

kept_before : (key x : Key) (keys : List Key) → key_cmp x key ≡ Less → (before key (x ∷ keys) ≡ x ∷ before key keys) × (behind key (x ∷ keys) ≡ behind key keys)
kept_before key x keys e = (ap (λ o. cond (is_lt o) (x ∷ before key keys) (before key keys)) e, ap (λ o. cond (is_gt o) (x ∷ behind key keys) (behind key keys)) e)

kept_behind : (key x : Key) (keys : List Key) → key_cmp x key ≡ Greater → (before key (x ∷ keys) ≡ before key keys) × (behind key (x ∷ keys) ≡ x ∷ behind key keys)
kept_behind key x keys e = (ap (λ o. cond (is_lt o) (x ∷ before key keys) (before key keys)) e, ap (λ o. cond (is_gt o) (x ∷ behind key keys) (behind key keys)) e)

kept_neither : (key x : Key) (keys : List Key) → key_cmp x key ≡ Equal → (before key (x ∷ keys) ≡ before key keys) × (behind key (x ∷ keys) ≡ behind key keys)
kept_neither key x keys e = (ap (λ o. cond (is_lt o) (x ∷ before key keys) (before key keys)) e, ap (λ o. cond (is_gt o) (x ∷ behind key keys) (behind key keys)) e)

all_behind : (key : Key) (keys : List Key) → list_all (λ other. is_lt (key_cmp key other)) keys ≡ true → Split key keys [] keys
all_behind key [] h = record { front_is = refl; back_is = refl }
all_behind key (x ∷ keys) h =
    let parts = and_parts (is_lt (key_cmp key x)) (list_all (λ other. is_lt (key_cmp key other)) keys) h in
    let rest = all_behind key keys parts.1 in
    let kept = kept_behind key x keys (greater_is (key_cmp x key) (turned x key ∙ parts.0)) in
    record { front_is = kept.0 ∙ rest.front_is; back_is = kept.1 ∙ ap (λ z. x ∷ z) rest.back_is }

-- between the keys that answer Less and those that answer Greater
pub at_gap : (key : Key) (keys : List Key) (i : ℕ) → IsPartitionPoint (λ other. key_cmp other key ≡ Less) (λ other. key_cmp other key ≡ Greater) keys i → Split key keys (take i keys) (drop i keys)
at_gap key [] zero h = record { front_is = refl; back_is = refl }
at_gap key [] (suc i) h = record { front_is = refl; back_is = refl }
at_gap key (x ∷ keys) zero h =
    let rest = at_gap key keys zero ((λ k d low high. absurd (omega arith)), (λ k d low high. h.1 (suc k) d (omega arith) (omega arith))) in
    let kept = kept_behind key x keys (h.1 0 x (omega arith) (omega arith)) in
    record { front_is = kept.0 ∙ rest.front_is; back_is = kept.1 ∙ ap (λ z. x ∷ z) rest.back_is }
at_gap key (x ∷ keys) (suc i) h =
    let rest = at_gap key keys i ((λ k d low high. h.0 (suc k) d (omega arith) (omega arith)), (λ k d low high. h.1 (suc k) d (omega arith) (omega arith))) in
    let kept = kept_before key x keys (h.0 0 x (omega arith) (omega arith)) in
    record { front_is = kept.0 ∙ ap (λ z. x ∷ z) rest.front_is; back_is = kept.1 ∙ rest.back_is }

-- at the key itself
pub at_key : (key : Key) (keys : List Key) (i : ℕ) → rising key_cmp keys ≡ true → i < length keys → HoldsAt (λ other. key_cmp other key ≡ Equal) keys i → Split key keys (take i keys) (drop (suc i) keys)
at_key key [] i up l h = absurd (omega arith)
at_key key (x ∷ keys) zero up l h =
    let same : x ≡ key = key_cmp_level x key (h x) in
    let above : list_all (λ other. is_lt (key_cmp x other)) keys ≡ true = (and_parts (list_all (λ other. is_lt (key_cmp x other)) keys) (rising key_cmp keys) up).0 in
    let rest = all_behind key keys (subst (λ z. list_all (λ other. is_lt (key_cmp z other)) keys ≡ true) same above) in
    let kept = kept_neither key x keys (h x) in
    record { front_is = kept.0 ∙ rest.front_is; back_is = kept.1 ∙ rest.back_is }
at_key key (x ∷ keys) (suc i) up l h =
    let parts = and_parts (list_all (λ other. is_lt (key_cmp x other)) keys) (rising key_cmp keys) up in
    let same : get_or keys i x ≡ key = key_cmp_level (get_or keys i x) key (h x) in
    let less : is_lt (key_cmp x key) ≡ true = subst (λ z. is_lt (key_cmp x z) ≡ true) same (all_at (λ other. is_lt (key_cmp x other)) keys i x parts.0 (omega arith)) in
    let rest = at_key key keys i parts.1 (omega arith) h in
    let kept = kept_before key x keys (less_is (key_cmp x key) less) in
    record { front_is = kept.0 ∙ ap (λ z. x ∷ z) rest.front_is; back_is = kept.1 ∙ rest.back_is }

pub inserted : (key : Key) (keys front back : List Key) → Split key keys front back → front ++ key ∷ back ≡ with_key key keys
inserted key keys front back s = sym (ap (λ z. z ++ key ∷ behind key keys) s.front_is ∙ ap (λ z. front ++ key ∷ z) s.back_is)

pub removed : (key : Key) (keys front back : List Key) → Split key keys front back → front ++ back ≡ without_key key keys
removed key keys front back s = sym (ap (λ z. z ++ behind key keys) s.front_is ∙ ap (λ z. front ++ z) s.back_is)

-- a key that is there stands between those before it and those behind it
pub around : (key : Key) (keys : List Key) (i : ℕ) → i < length keys → HoldsAt (λ other. key_cmp other key ≡ Equal) keys i → keys ≡ take i keys ++ key ∷ drop (suc i) keys
around key keys i l h =
    sym (set-get_or keys i key)
    ∙ (set_split keys i (get_or keys i key) l ∙ ap (λ z. take i keys ++ z ∷ drop (suc i) keys) (key_cmp_level (get_or keys i key) key (h key)))

-- where the search says that a key is, or would go
pub found_with : (key : Key) (keys : List Key) (r : Result ℕ ℕ) → rising key_cmp keys ≡ true → IsSearchInRange r (length keys) → IsBinarySearchResult (λ other. key_cmp other key) keys r
    → MatchResult r (λ i. keys ≡ with_key key keys) (λ i. insert keys i key ≡ with_key key keys)
found_with key keys (Ok i) up l h = around key keys i l h ∙ inserted key keys (take i keys) (drop (suc i) keys) (at_key key keys i up l h)
found_with key keys (Err i) up l h = inserted key keys (take i keys) (drop i keys) (at_gap key keys i (h (answers_rise key keys up)))

pub found_without : (key : Key) (keys : List Key) (r : Result ℕ ℕ) → rising key_cmp keys ≡ true → IsSearchInRange r (length keys) → IsBinarySearchResult (λ other. key_cmp other key) keys r
    → MatchResult r (λ i. remove keys i ≡ without_key key keys) (λ i. keys ≡ without_key key keys)
found_without key keys (Ok i) up l h = removed key keys (take i keys) (drop (suc i) keys) (at_key key keys i up l h)
found_without key keys (Err i) up l h = sym (take-append-drop i keys) ∙ removed key keys (take i keys) (drop i keys) (at_gap key keys i (h (answers_rise key keys up)))
