-- A walk that remembers the rows that it has met keeps the first of each.
use Rattle.std.proofs.Common.{◌≡◌, ℕ, ◌<◌, ◌+◌, ◌++◌, drop, length, get_or, append_assoc, Bool, true, false, not, ◌||◌, cond, List, [], ◌∷◌, map, filter, refl, sym, ap, ◌∙◌, Ordering, Less, Equal, Greater, is_eq, true≢false}
use Rattle.std.specs.List.{list_any}
use Rattle.std.specs.Ordering.{match_ordering, ordering_reverse}
use Rattle.std.specs.BTreeSet.{insert_key}
use Rattle.std.proofs.lemmas.List.{at_drop_more}
use denote.Ref.{Bor}
use Rattle.sqlite_keyed.proofs.ListLemmas.{filter-filter, filter_all, all_of}
use Rattle.wat_value.specs.Order.{key_cmp}
use Rattle.wat_value.specs.OrderLaws.{key_cmp_total}
use Rattle.wat_value.specs.Order.{key_eq}
use Rattle.wat_group.specs.Query.{Row, first_of_each}
use Rattle.wat_group.proofs.Classes.{key_eq_same}

-- one of the rows is the row
abbrev pub is_among : List Row → Row → Bool
is_among seen r = list_any (λ s. key_eq r s) seen

-- what is left to keep where these rows have been met
abbrev pub unmet : List Row → List Row → List Row
unmet seen rows = filter (λ r. not (is_among seen r)) (first_of_each key_eq rows)

-- ---- lists

filter_both : {A : Type 0} (p q r : A → Bool) → ((x : A) → r x ≡ cond (q x) (p x) false) → (xs : List A) → filter p (filter q xs) ≡ filter r xs
filter_both p q r is [] = refl
filter_both p q r is (x ∷ xs) = go (q x) (p x) (r x) refl refl (is x) (filter_both p q r is xs)
  where
    go : (a b c : Bool) → q x ≡ a → p x ≡ b → c ≡ cond (q x) (p x) false → filter p (filter q xs) ≡ filter r xs
        → filter p (cond a (x ∷ filter q xs) (filter q xs)) ≡ cond c (x ∷ filter r xs) (filter r xs)
    go true true c e f g more = rw (f, g, e, f) (ap (λ l. x ∷ l) more)
    go true false c e f g more = rw (f, g, e, f) more
    go false b c e f g more = rw (g, e) more

turned_eq : (o : Ordering) → is_eq (ordering_reverse o) ≡ is_eq o
turned_eq Less = refl
turned_eq Equal = refl
turned_eq Greater = refl

key_eq_sym : (a b : Row) → key_eq a b ≡ key_eq b a
key_eq_sym a b = ap is_eq (key_cmp_total.antisymm a b) ∙ turned_eq (key_cmp b a)

neither : (a b : Bool) → not (a || b) ≡ cond (not a) (not b) false
neither true b = refl
neither false b = refl

-- a row that was not met is kept, and met from then on
pub unmet-new : (seen now : List Row) (x : Row) (rows : List Row) → is_among seen x ≡ false → ((y : Row) → is_among now y ≡ key_eq y x || is_among seen y)
    → unmet seen (x ∷ rows) ≡ x ∷ unmet now rows
unmet-new seen now x rows new is =
    let fresh = λ (r : Row). not (is_among seen r) in
    let other = λ (r : Row). not (key_eq x r) in
    let firsts = first_of_each key_eq rows in
    let each : (r : Row) → not (is_among now r) ≡ cond (not (key_eq x r)) (not (is_among seen r)) false =
    λ r. ap not (is r ∙ ap (λ b. b || is_among seen r) (key_eq_sym r x)) ∙ neither (key_eq x r) (is_among seen r) in
    ap (λ b. cond (not b) (x ∷ filter fresh (filter other firsts)) (filter fresh (filter other firsts))) new
    ∙ ap (λ l. x ∷ l) (filter_both fresh other (λ r. not (is_among now r)) each firsts)

-- a row that was met is not kept
pub unmet-met : (seen : List Row) (x : Row) (rows : List Row) → is_among seen x ≡ true → unmet seen (x ∷ rows) ≡ unmet seen rows
unmet-met seen x rows met =
    let fresh = λ (r : Row). not (is_among seen r) in
    let other = λ (r : Row). not (key_eq x r) in
    let firsts = first_of_each key_eq rows in
    ap (λ b. cond (not b) (x ∷ filter fresh (filter other firsts)) (filter fresh (filter other firsts))) met
    ∙ filter-filter fresh other (λ y passes. apart y passes (key_eq x y) refl) firsts
  where
    apart : (y : Row) → not (is_among seen y) ≡ true → (b : Bool) → key_eq x y ≡ b → not b ≡ true
    apart y passes false e = refl
    apart y passes true e = absurd (true≢false (sym passes ∙ sym (ap (λ r. not (is_among seen r)) (key_eq_same x y e)) ∙ ap not met))

-- ---- the keys of a set with one more

or_same : (b r : Bool) → b || r ≡ b || (b || r)
or_same true r = refl
or_same false r = refl

or_swap : (a b c : Bool) → a || (b || c) ≡ b || (a || c)
or_swap true true c = refl
or_swap true false c = refl
or_swap false b c = refl

pub any-insert_key : {K : Type 0} (cmp : K → K → Ordering) (t : K → Bool) → ((a b : K) → cmp a b ≡ Equal → t a ≡ t b) → (k : K) (ks : List K)
    → list_any t (insert_key cmp ks k) ≡ t k || list_any t ks
any-insert_key cmp t respects k [] = refl
any-insert_key cmp t respects k (x ∷ xs) = go (cmp k x) refl (any-insert_key cmp t respects k xs)
  where
    go : (o : Ordering) → cmp k x ≡ o → list_any t (insert_key cmp xs k) ≡ t k || list_any t xs
        → list_any t (match_ordering o (k ∷ x ∷ xs) (x ∷ xs) (x ∷ insert_key cmp xs k)) ≡ t k || (t x || list_any t xs)
    go Less e more = refl
    go Equal e more = ap (λ b. b || list_any t xs) (sym (respects k x e)) ∙ or_same (t k) (list_any t xs) ∙ ap (λ b. t k || (b || list_any t xs)) (respects k x e)
    go Greater e more = ap (λ r. t x || r) more ∙ or_swap (t x) (t k) (list_any t xs)

-- a reference to a row, ordered as the row
abbrev pub row_cmp : Bor Row → Bor Row → Ordering
row_cmp a b = key_cmp a.now b.now

abbrev pub seen_rows : List (Bor Row) → List Row
seen_rows = map (λ s. s.now)

any-map : {A B : Type 0} (p : B → Bool) (f : A → B) (xs : List A) → list_any p (map f xs) ≡ list_any (λ x. p (f x)) xs
any-map p f [] = refl
any-map p f (x ∷ xs) = ap (λ b. p (f x) || b) (any-map p f xs)

is_Equal : (o : Ordering) → o ≡ Equal → is_eq o ≡ true
is_Equal o e = ap is_eq e

pub among_after : (keys : List (Bor Row)) (k : Bor Row) (y : Row) → is_among (seen_rows (insert_key row_cmp keys k)) y ≡ key_eq y k.now || is_among (seen_rows keys) y
among_after keys k y =
    let t = λ (s : Bor Row). key_eq y s.now in
    any-map (key_eq y) (λ (s : Bor Row). s.now) (insert_key row_cmp keys k)
    ∙ any-insert_key row_cmp t (λ a b e. ap (key_eq y) (key_eq_same a.now b.now (is_Equal _ e))) k keys
    ∙ ap (λ b. key_eq y k.now || b) (sym (any-map (key_eq y) (λ (s : Bor Row). s.now) keys))

-- the key that was given is in the set
pub among_by_keys : (keys : List (Bor Row)) (k : Bor Row) → list_any (λ s. is_eq (row_cmp k s)) keys ≡ is_among (seen_rows keys) k.now
among_by_keys keys k = sym (any-map (key_eq k.now) (λ (s : Bor Row). s.now) keys)

module _ (kept seen now rows all : List Row) (i : ℕ) (x : Row) (within : i < length rows) (is : x ≡ get_or rows i x)
    (after : (y : Row) → is_among now y ≡ key_eq y x || is_among seen y) (so_far : kept ++ unmet seen (drop i rows) ≡ all) where
  next_rows : kept ++ unmet seen (x ∷ drop (i + 1) rows) ≡ all
  next_rows = ap (λ y. kept ++ unmet seen (y ∷ drop (i + 1) rows)) is ∙ sym (at_drop_more (λ rest. kept ++ unmet seen rest) rows i x within) ∙ so_far

  same_met : is_among seen x ≡ true → (y : Row) → is_among now y ≡ is_among seen y
  same_met met y = go (key_eq y x) refl
    where
      go : (b : Bool) → key_eq y x ≡ b → is_among now y ≡ is_among seen y
      go false e = after y ∙ ap (λ b. b || is_among seen y) e
      go true e = after y ∙ ap (λ b. b || is_among seen y) e ∙ sym (ap (is_among seen) (key_eq_same y x e) ∙ met)

  pub met_step : is_among seen x ≡ true → kept ++ unmet now (drop (i + 1) rows) ≡ all
  met_step met =
      (λ j. kept ++ filter (λ r. not (same_met met r j)) (first_of_each key_eq (drop (i + 1) rows)))
      ∙ sym (ap (λ l. kept ++ l) (unmet-met seen x (drop (i + 1) rows) met)) ∙ next_rows

  pub new_step : is_among seen x ≡ false → (kept ++ x ∷ []) ++ unmet now (drop (i + 1) rows) ≡ all
  new_step new =
      append_assoc kept (x ∷ []) (unmet now (drop (i + 1) rows)) ∙ sym (ap (λ l. kept ++ l) (unmet-new seen now x (drop (i + 1) rows) new after)) ∙ next_rows

-- nothing was met before the first row
pub unmet-none : (rows : List Row) → unmet [] rows ≡ first_of_each key_eq rows
unmet-none rows = filter_all (λ r. true) (first_of_each key_eq rows) (all_of (λ r. true ≡ true) (λ r. refl) (first_of_each key_eq rows))

pub not_true : (b : Bool) → false ≡ not b → b ≡ true
not_true true e = refl
not_true false e = absurd (true≢false (sym e))

pub not_false : (b : Bool) → true ≡ not b → b ≡ false
not_false true e = absurd (true≢false e)
not_false false e = refl
