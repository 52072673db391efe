-- The interval of tests holds exactly the keys that satisfy those that are taken.
use Rattle.std.proofs.Common.{◌≡◌, ◌≤◌, Bool, true, false, ◌&&◌, ◌||◌, if◌then◌else◌, List, [], ◌∷◌, length, map, ◌⊎◌, Option, Some, None, refl, sym, ap, ◌∙◌, subst, inl, inr, ⊎_elim, arith}
use Rattle.std.specs.List.{list_all, filter_map, reduce, fold, cons_option}
use Rattle.std.specs.declared.cmp.Ordering.{Ordering}
use Rattle.std.specs.declared.cmp.Ordering.TheVariants as o
use Rattle.std.specs.Ordering.{is_lt, is_le, is_gt, is_ge, is_eq, ordering_then, ordering_reverse}
use Rattle.std.proofs.lemmas.Cmp.{upto}
use Rattle.std.proofs.lemmas.Bool.{and_parts, both_ways}
use Rattle.wat_value.specs.declared.value.Value.{Value}
use Rattle.wat_value.specs.Order.{value_cmp}
use Rattle.wat_value.specs.OrderLaws.{value_cmp_total, value_cmp_level, value_cmp_refl}
use Rattle.wat_value.specs.Bounds.{prefix_cmp, is_above, is_below, holds}
use Rattle.wat_ast.specs.declared.expression.BinaryOp.{BinaryOp}
use Rattle.wat_ast.specs.declared.expression.BinaryOp.TheVariants.{Or, And, Equal, Unequal, Less, AtMost, Greater, AtLeast, Add, Subtract, Concat, Multiply, Divide}
use Rattle.wat_interval.specs.declared.test.Test.{Test}
use Rattle.wat_interval.specs.Tests.{is_bounding, is_equality, fixes, satisfies, satisfies_all, all_bound, all_columns_bound, taken, passes_tests}
use Rattle.wat_interval.specs.Intervals.{Edge, lower_edge, upper_edge, tighter, greater_edge, lesser_edge, lower_of, upper_of, with_edge, edges_of, bound_with, bound_of, interval_of}

-- ---- the order of values

at_less : (c : Ordering) → is_lt c ≡ true → c ≡ o.Less
at_less o.Less e = refl
at_less o.Equal e = cc
at_less o.Greater e = cc

at_equal : (c : Ordering) → is_eq c ≡ true → c ≡ o.Equal
at_equal o.Less e = cc
at_equal o.Equal e = refl
at_equal o.Greater e = cc

gt_back : (v w : Value) → is_gt (value_cmp v w) ≡ is_lt (value_cmp w v)
gt_back v w = ap is_gt (value_cmp_total.antisymm v w) ∙ turned (value_cmp w v)
  where
    turned : (o : Ordering) → is_gt (ordering_reverse o) ≡ is_lt o
    turned o.Less = refl
    turned o.Equal = refl
    turned o.Greater = refl

eq_back : (v w : Value) → is_eq (value_cmp v w) ≡ is_eq (value_cmp w v)
eq_back v w = ap is_eq (value_cmp_total.antisymm v w) ∙ turned (value_cmp w v)
  where
    turned : (o : Ordering) → is_eq (ordering_reverse o) ≡ is_eq o
    turned o.Less = refl
    turned o.Equal = refl
    turned o.Greater = refl

-- ---- what an edge allows

abbrev over_edge : Edge → Value → Bool
over_edge e v = is_gt (value_cmp v e.value) || (is_eq (value_cmp v e.value) && e.included)

abbrev under_edge : Edge → Value → Bool
under_edge e v = is_lt (value_cmp v e.value) || (is_eq (value_cmp v e.value) && e.included)

abbrev over_option : Option Edge → Value → Bool
over_option None v = true
over_option (Some e) v = over_edge e v

abbrev under_option : Option Edge → Value → Bool
under_option None v = true
under_option (Some e) v = under_edge e v

-- a test is what its edges allow
equal_both : (o : Ordering) → is_eq o ≡ ((is_gt o || (is_eq o && true)) && (is_lt o || (is_eq o && true)))
equal_both o.Less = refl
equal_both o.Equal = refl
equal_both o.Greater = refl

ge_over : (o : Ordering) → is_ge o ≡ ((is_gt o || (is_eq o && true)) && true)
ge_over o.Less = refl
ge_over o.Equal = refl
ge_over o.Greater = refl

gt_over : (o : Ordering) → is_gt o ≡ ((is_gt o || (is_eq o && false)) && true)
gt_over o.Less = refl
gt_over o.Equal = refl
gt_over o.Greater = refl

le_under : (o : Ordering) → is_le o ≡ (true && (is_lt o || (is_eq o && true)))
le_under o.Less = refl
le_under o.Equal = refl
le_under o.Greater = refl

lt_under : (o : Ordering) → is_lt o ≡ (true && (is_lt o || (is_eq o && false)))
lt_under o.Less = refl
lt_under o.Equal = refl
lt_under o.Greater = refl

test_edges : (op : BinaryOp) (w v : Value) → is_bounding op ≡ true
    → satisfies v (record { op = op; value = w }) ≡ (over_option (lower_edge (record { op = op; value = w })) v && under_option (upper_edge (record { op = op; value = w })) v)
test_edges Or w v b = cc
test_edges And w v b = cc
test_edges Equal w v b = equal_both (value_cmp v w)
test_edges Unequal w v b = cc
test_edges Less w v b = lt_under (value_cmp v w)
test_edges AtMost w v b = le_under (value_cmp v w)
test_edges Greater w v b = gt_over (value_cmp v w)
test_edges AtLeast w v b = ge_over (value_cmp v w)
test_edges Add w v b = cc
test_edges Subtract w v b = cc
test_edges Concat w v b = cc
test_edges Multiply w v b = cc
test_edges Divide w v b = cc

-- ---- the tighter of two edges allows what both allow

both_same : (p q i j : Bool) → (p || (q && (i && j))) ≡ ((p || (q && i)) && (p || (q && j)))
both_same true q i j = refl
both_same false true i j = refl
both_same false false i j = refl

absorb_right : (x y : Bool) → (x ≡ true → y ≡ true) → x ≡ (x && y)
absorb_right true y h = sym (h refl)
absorb_right false y h = refl

absorb_left : (x y : Bool) → (y ≡ true → x ≡ true) → y ≡ (x && y)
absorb_left true y h = refl
absorb_left false true h = sym (h refl)
absorb_left false false h = refl

or_cases : (x y : Bool) → (x || y) ≡ true → (x ≡ true) ⊎ (y ≡ true)
or_cases true y h = inl refl
or_cases false y h = inr h

or_first : (x y : Bool) → x ≡ true → (x || y) ≡ true
or_first x y e = ap (λ z. z || y) e

-- what is over the greater value is over the lesser one
over_lesser : (a b : Edge) → is_lt (value_cmp b.value a.value) ≡ true → (v : Value) → over_edge a v ≡ true → over_edge b v ≡ true
over_lesser a b l v h = or_first (is_gt (value_cmp v b.value)) (is_eq (value_cmp v b.value) && b.included)
    (gt_back v b.value ∙ ⊎_elim
    (λ (g : is_gt (value_cmp v a.value) ≡ true). ap is_lt (value_cmp_total.trans b.value a.value v (at_less (value_cmp b.value a.value) l) (at_less (value_cmp a.value v) (sym (gt_back v a.value) ∙ g))))
    (λ (q : (is_eq (value_cmp v a.value) && a.included) ≡ true).
    let same : v ≡ a.value = value_cmp_level v a.value (at_equal (value_cmp v a.value) (and_parts (is_eq (value_cmp v a.value)) a.included q).0) in
    ap (λ z. is_lt (value_cmp b.value z)) same ∙ l)
    (or_cases (is_gt (value_cmp v a.value)) (is_eq (value_cmp v a.value) && a.included) h))

under_greater : (a b : Edge) → is_lt (value_cmp a.value b.value) ≡ true → (v : Value) → under_edge a v ≡ true → under_edge b v ≡ true
under_greater a b l v h = or_first (is_lt (value_cmp v b.value)) (is_eq (value_cmp v b.value) && b.included)
    (⊎_elim
    (λ (g : is_lt (value_cmp v a.value) ≡ true). ap is_lt (value_cmp_total.trans v a.value b.value (at_less (value_cmp v a.value) g) (at_less (value_cmp a.value b.value) l)))
    (λ (q : (is_eq (value_cmp v a.value) && a.included) ≡ true).
    let same : v ≡ a.value = value_cmp_level v a.value (at_equal (value_cmp v a.value) (and_parts (is_eq (value_cmp v a.value)) a.included q).0) in
    ap (λ z. is_lt (value_cmp z b.value)) same ∙ l)
    (or_cases (is_lt (value_cmp v a.value)) (is_eq (value_cmp v a.value) && a.included) h))

greater_allows : (a b : Edge) (v : Value) → over_edge (greater_edge a b) v ≡ (over_edge a v && over_edge b v)
greater_allows a b v = by (value_cmp a.value b.value) refl
  where
    by : (o : Ordering) → value_cmp a.value b.value ≡ o → over_edge (tighter o a b) v ≡ (over_edge a v && over_edge b v)
    by o.Less e = absorb_left (over_edge a v) (over_edge b v) (over_lesser b a (ap is_lt e) v)
    by o.Greater e = absorb_right (over_edge a v) (over_edge b v) (over_lesser a b (sym (gt_back a.value b.value) ∙ ap is_gt e) v)
    by o.Equal e =
        let same : a.value ≡ b.value = value_cmp_level a.value b.value e in
        both_same (is_gt (value_cmp v a.value)) (is_eq (value_cmp v a.value)) a.included b.included
        ∙ ap (λ z. over_edge a v && (is_gt (value_cmp v z) || (is_eq (value_cmp v z) && b.included))) same

lesser_allows : (a b : Edge) (v : Value) → under_edge (lesser_edge a b) v ≡ (under_edge a v && under_edge b v)
lesser_allows a b v = by (value_cmp b.value a.value) refl
  where
    by : (o : Ordering) → value_cmp b.value a.value ≡ o → under_edge (tighter o a b) v ≡ (under_edge a v && under_edge b v)
    by o.Less e = absorb_left (under_edge a v) (under_edge b v) (under_greater b a (ap is_lt e) v)
    by o.Greater e = absorb_right (under_edge a v) (under_edge b v) (under_greater a b (sym (gt_back b.value a.value) ∙ ap is_gt e) v)
    by o.Equal e =
        let same : a.value ≡ b.value = sym (value_cmp_level b.value a.value e) in
        both_same (is_lt (value_cmp v a.value)) (is_eq (value_cmp v a.value)) a.included b.included
        ∙ ap (λ z. under_edge a v && (is_lt (value_cmp v z) || (is_eq (value_cmp v z) && b.included))) same

and_assoc : (x y z : Bool) → ((x && y) && z) ≡ (x && (y && z))
and_assoc true y z = refl
and_assoc false y z = refl

folded : (allows : Edge → Bool) (f : Edge → Edge → Edge) → ((a b : Edge) → allows (f a b) ≡ (allows a && allows b)) → (e : Edge) (es : List Edge) → allows (fold f e es) ≡ (allows e && list_all allows es)
folded allows f both e [] = absorb_right (allows e) true (λ _. refl)
folded allows f both e (x ∷ es) =
    folded allows f both (f e x) es ∙ (ap (λ z. z && list_all allows es) (both e x) ∙ and_assoc (allows e) (allows x) (list_all allows es))

lower_allows : (es : List Edge) (v : Value) → over_option (reduce greater_edge es) v ≡ list_all (λ e. over_edge e v) es
lower_allows [] v = refl
lower_allows (e ∷ es) v = folded (λ e. over_edge e v) greater_edge (λ a b. greater_allows a b v) e es

upper_allows : (es : List Edge) (v : Value) → under_option (reduce lesser_edge es) v ≡ list_all (λ e. under_edge e v) es
upper_allows [] v = refl
upper_allows (e ∷ es) v = folded (λ e. under_edge e v) lesser_edge (λ a b. lesser_allows a b v) e es

consed : (allows : Edge → Bool) (option : Option Edge → Bool) → option None ≡ true → ((e : Edge) → option (Some e) ≡ allows e) → (x : Option Edge) (es : List Edge)
    → list_all allows (cons_option x es) ≡ (option x && list_all allows es)
consed allows option none some None es = ap (λ z. z && list_all allows es) (sym none)
consed allows option none some (Some e) es = ap (λ z. z && list_all allows es) (sym (some e))

all_mapped : (allows : Edge → Bool) (option : Option Edge → Bool) → option None ≡ true → ((e : Edge) → option (Some e) ≡ allows e) → (edge : Test → Option Edge) (tests : List Test)
    → list_all allows (filter_map edge tests) ≡ list_all (λ t. option (edge t)) tests
all_mapped allows option none some edge [] = refl
all_mapped allows option none some edge (t ∷ tests) =
    consed allows option none some (edge t) (filter_map edge tests) ∙ ap (λ z. option (edge t) && z) (all_mapped allows option none some edge tests)

regroup : (a b c d : Bool) → ((a && b) && (c && d)) ≡ ((a && c) && (b && d))
regroup true true c d = refl
regroup true false true d = refl
regroup true false false d = refl
regroup false b c d = refl

each_edges : (tests : List Test) (v : Value) → all_bound tests ≡ true
    → satisfies_all v tests ≡ (list_all (λ t. over_option (lower_edge t) v) tests && list_all (λ t. under_option (upper_edge t) v) tests)
each_edges [] v b = refl
each_edges (t ∷ tests) v b =
    let p = and_parts (is_bounding t.op) (all_bound tests) b in
    ap (λ z. z && satisfies_all v tests) (test_edges t.op t.value v p.0)
    ∙ (ap (λ z. (over_option (lower_edge t) v && under_option (upper_edge t) v) && z) (each_edges tests v p.1)
    ∙ regroup (over_option (lower_edge t) v) (under_option (upper_edge t) v) (list_all (λ t. over_option (lower_edge t) v) tests) (list_all (λ t. under_option (upper_edge t) v) tests))

-- all tests are what the greatest lower edge and the least upper edge allow
tests_allow : (tests : List Test) (v : Value) → all_bound tests ≡ true → satisfies_all v tests ≡ (over_option (lower_of tests) v && under_option (upper_of tests) v)
tests_allow tests v b =
    each_edges tests v b
    ∙ (ap (λ z. z && list_all (λ t. under_option (upper_edge t) v) tests)
    (sym (lower_allows (filter_map lower_edge tests) v ∙ all_mapped (λ e. over_edge e v) (λ x. over_option x v) refl (λ e. refl) lower_edge tests))
    ∙ ap (λ z. over_option (lower_of tests) v && z)
    (sym (upper_allows (filter_map upper_edge tests) v ∙ all_mapped (λ e. under_edge e v) (λ x. under_option x v) refl (λ e. refl) upper_edge tests)))

-- ---- a column with an equality is pinned to one value

abbrev HasValue : Value → List Edge → Type 0
HasValue x [] = ⊥
HasValue x (e ∷ es) = (e.value ≡ x) ⊎ HasValue x es

has_more : (x : Value) (e : Option Edge) (es : List Edge) → HasValue x es → HasValue x (cons_option e es)
has_more x None es h = h
has_more x (Some e) es h = inr h

-- not less, and not greater
abbrev NotLess : Value → Value → Type 0
NotLess v w = is_lt (value_cmp v w) ≡ false

not_less_trans : (x y z : Value) → NotLess x y → NotLess y z → NotLess x z
not_less_trans x y z a b =
    sym (gt_back z x) ∙ upto value_cmp_total z y x (gt_back z y ∙ b) (gt_back y x ∙ a)

not_less_self : (x : Value) → NotLess x x
not_less_self x = ap is_lt (value_cmp_refl x)

greater_left : (a b : Edge) → NotLess (greater_edge a b).value a.value
greater_left a b = by (value_cmp a.value b.value) refl
  where
    by : (o : Ordering) → value_cmp a.value b.value ≡ o → NotLess (tighter o a b).value a.value
    by o.Less e = sym (gt_back a.value b.value) ∙ ap is_gt e
    by o.Greater e = not_less_self a.value
    by o.Equal e = not_less_self a.value

greater_right : (a b : Edge) → NotLess (greater_edge a b).value b.value
greater_right a b = by (value_cmp a.value b.value) refl
  where
    by : (o : Ordering) → value_cmp a.value b.value ≡ o → NotLess (tighter o a b).value b.value
    by o.Less e = not_less_self b.value
    by o.Greater e = ap is_lt e
    by o.Equal e = ap is_lt e

lesser_left : (a b : Edge) → NotLess a.value (lesser_edge a b).value
lesser_left a b = by (value_cmp b.value a.value) refl
  where
    by : (o : Ordering) → value_cmp b.value a.value ≡ o → NotLess a.value (tighter o a b).value
    by o.Less e = sym (gt_back b.value a.value) ∙ ap is_gt e
    by o.Greater e = not_less_self a.value
    by o.Equal e = not_less_self a.value

lesser_right : (a b : Edge) → NotLess b.value (lesser_edge a b).value
lesser_right a b = by (value_cmp b.value a.value) refl
  where
    by : (o : Ordering) → value_cmp b.value a.value ≡ o → NotLess b.value (tighter o a b).value
    by o.Less e = not_less_self b.value
    by o.Greater e = ap is_lt e
    by o.Equal e = ap is_lt e

fold_reaches : (x : Value) (e : Edge) (es : List Edge) → NotLess e.value x ⊎ HasValue x es → NotLess (fold greater_edge e es).value x
fold_reaches x e [] (inl h) = h
fold_reaches x e [] (inr h) = absurd h
fold_reaches x e (a ∷ es) (inl h) = fold_reaches x (greater_edge e a) es (inl (not_less_trans (greater_edge e a).value e.value x (greater_left e a) h))
fold_reaches x e (a ∷ es) (inr (inl h)) = fold_reaches x (greater_edge e a) es (inl (subst (λ z. NotLess (greater_edge e a).value z) h (greater_right e a)))
fold_reaches x e (a ∷ es) (inr (inr h)) = fold_reaches x (greater_edge e a) es (inr h)

fold_stays : (x : Value) (e : Edge) (es : List Edge) → NotLess x e.value ⊎ HasValue x es → NotLess x (fold lesser_edge e es).value
fold_stays x e [] (inl h) = h
fold_stays x e [] (inr h) = absurd h
fold_stays x e (a ∷ es) (inl h) = fold_stays x (lesser_edge e a) es (inl (not_less_trans x e.value (lesser_edge e a).value h (lesser_left e a)))
fold_stays x e (a ∷ es) (inr (inl h)) = fold_stays x (lesser_edge e a) es (inl (subst (λ z. NotLess z (lesser_edge e a).value) h (lesser_right e a)))
fold_stays x e (a ∷ es) (inr (inr h)) = fold_stays x (lesser_edge e a) es (inr h)

-- the value of an equality is among the lower edges and among the upper ones
record Equality (tests : List Test) : Type 0 where
  value : Value
  lower : HasValue value (filter_map lower_edge tests)
  upper : HasValue value (filter_map upper_edge tests)

equality_here : (op : BinaryOp) (w : Value) (tests : List Test) → is_equality op ≡ true → Equality (record { op = op; value = w } ∷ tests)
equality_here Or w tests b = cc
equality_here And w tests b = cc
equality_here Equal w tests b = record { value = w; lower = inl refl; upper = inl refl }
equality_here Unequal w tests b = cc
equality_here Less w tests b = cc
equality_here AtMost w tests b = cc
equality_here Greater w tests b = cc
equality_here AtLeast w tests b = cc
equality_here Add w tests b = cc
equality_here Subtract w tests b = cc
equality_here Concat w tests b = cc
equality_here Multiply w tests b = cc
equality_here Divide w tests b = cc

find_equality : (tests : List Test) → fixes tests ≡ true → Equality tests
find_equality [] h = cc
find_equality (t ∷ tests) h = ⊎_elim
    (λ (a : is_equality t.op ≡ true). equality_here t.op t.value tests a)
    (λ (a : fixes tests ≡ true).
    let q = find_equality tests a in
    record { value = q.value; lower = has_more q.value (lower_edge t) (filter_map lower_edge tests) q.lower; upper = has_more q.value (upper_edge t) (filter_map upper_edge tests) q.upper })
    (or_cases (is_equality t.op) (fixes tests) h)

record Pinned (tests : List Test) : Type 0 where
  lower : Edge
  upper : Edge
  is_lower : lower_of tests ≡ Some lower
  is_upper : upper_of tests ≡ Some upper
  meet : NotLess lower.value upper.value

pin : (ls us : List Edge) (x : Value) → HasValue x ls → HasValue x us
    → (l : Edge) × (u : Edge) × (reduce greater_edge ls ≡ Some l) × (reduce lesser_edge us ≡ Some u) × NotLess l.value u.value
pin [] us x h k = absurd h
pin (l ∷ ls) [] x h k = absurd k
pin (l ∷ ls) (u ∷ us) x h k = (
  fold greater_edge l ls,
  fold lesser_edge u us,
  refl,
  refl,
  not_less_trans (fold greater_edge l ls).value x (fold lesser_edge u us).value
      (fold_reaches x l ls (⊎_elim (λ (e : l.value ≡ x). inl (subst (λ z. NotLess z x) (sym e) (not_less_self x))) (λ m. inr m) h))
      (fold_stays x u us (⊎_elim (λ (e : u.value ≡ x). inl (subst (λ z. NotLess x z) (sym e) (not_less_self x))) (λ m. inr m) k)),
)

pinned : (tests : List Test) → fixes tests ≡ true → Pinned tests
pinned tests h =
    let q = find_equality tests h in
    let p = pin (filter_map lower_edge tests) (filter_map upper_edge tests) q.value q.lower q.upper in
    record { lower = p.0; upper = p.1; is_lower = p.2; is_upper = p.3; meet = p.4 }

-- ---- bounds as edges column by column

abbrev over_edges : List (Option Edge) → List Value → Bool
over_edges [] key = true
over_edges (None ∷ more) key = true
over_edges (Some e ∷ more) [] = false
over_edges (Some e ∷ more) (v ∷ key) = is_gt (value_cmp v e.value) || (is_eq (value_cmp v e.value) && (e.included && over_edges more key))

abbrev under_edges : List (Option Edge) → List Value → Bool
under_edges [] key = true
under_edges (None ∷ more) key = true
under_edges (Some e ∷ more) [] = true
under_edges (Some e ∷ more) (v ∷ key) = is_lt (value_cmp v e.value) || (is_eq (value_cmp v e.value) && (e.included && under_edges more key))

ge_then : (o p : Ordering) → is_ge (ordering_then o p) ≡ (is_gt o || (is_eq o && is_ge p))
ge_then o.Less p = refl
ge_then o.Equal p = refl
ge_then o.Greater p = refl

gt_then : (o p : Ordering) → is_gt (ordering_then o p) ≡ (is_gt o || (is_eq o && is_gt p))
gt_then o.Less p = refl
gt_then o.Equal p = refl
gt_then o.Greater p = refl

le_then : (o p : Ordering) → is_le (ordering_then o p) ≡ (is_lt o || (is_eq o && is_le p))
le_then o.Less p = refl
le_then o.Equal p = refl
le_then o.Greater p = refl

lt_then : (o p : Ordering) → is_lt (ordering_then o p) ≡ (is_lt o || (is_eq o && is_lt p))
lt_then o.Less p = refl
lt_then o.Equal p = refl
lt_then o.Greater p = refl

above_step : (v w : Value) (vs : List Value) (x : Bool) (key : List Value) → (vs ≡ [] → x ≡ false)
    → is_above (bound_with (w ∷ vs) x) (v ∷ key) ≡ (is_gt (value_cmp v w) || (is_eq (value_cmp v w) && is_above (bound_with vs x) key))
above_step v w [] true key h = absurd (both_ways true (h refl) refl)
above_step v w [] false key h = ge_then (value_cmp v w) o.Equal
above_step v w (y ∷ ys) true key h = gt_then (value_cmp v w) (prefix_cmp key (y ∷ ys))
above_step v w (y ∷ ys) false key h = ge_then (value_cmp v w) (prefix_cmp key (y ∷ ys))

below_step : (v w : Value) (vs : List Value) (x : Bool) (key : List Value) → (vs ≡ [] → x ≡ false)
    → is_below (bound_with (w ∷ vs) x) (v ∷ key) ≡ (is_lt (value_cmp v w) || (is_eq (value_cmp v w) && is_below (bound_with vs x) key))
below_step v w [] true key h = absurd (both_ways true (h refl) refl)
below_step v w [] false key h = le_then (value_cmp v w) o.Equal
below_step v w (y ∷ ys) true key h = lt_then (value_cmp v w) (prefix_cmp key (y ∷ ys))
below_step v w (y ∷ ys) false key h = le_then (value_cmp v w) (prefix_cmp key (y ∷ ys))

edges_plain : (edges : List (Option Edge)) → (edges_of edges).0 ≡ [] → (edges_of edges).1 ≡ false
edges_plain [] h = refl
edges_plain (None ∷ more) h = refl
edges_plain (Some e ∷ more) h = by e.included h
  where
    by : (b : Bool) → (with_edge b e.value (edges_of more)).0 ≡ []
        → (with_edge b e.value (edges_of more)).1 ≡ false
    by true h = cc
    by false h = cc

none_above : (w : Value) (vs : List Value) (x : Bool) → is_above (bound_with (w ∷ vs) x) [] ≡ false
none_above w vs true = refl
none_above w vs false = refl

none_below : (w : Value) (vs : List Value) (x : Bool) → is_below (bound_with (w ∷ vs) x) [] ≡ true
none_below w vs true = refl
none_below w vs false = refl

above_is : (edges : List (Option Edge)) (key : List Value) → is_above (bound_of edges) key ≡ over_edges edges key
above_is [] key = refl
above_is (None ∷ more) key = refl
above_is (Some e ∷ more) [] = by e.included
  where
    by : (b : Bool) → is_above (bound_with (with_edge b e.value (edges_of more)).0 (with_edge b e.value (edges_of more)).1) [] ≡ false
    by true = none_above e.value (edges_of more).0 (edges_of more).1
    by false = none_above e.value [] true
above_is (Some e ∷ more) (v ∷ key) = by e.included (above_is more key)
  where
    by : (b : Bool) → is_above (bound_of more) key ≡ over_edges more key
        → is_above (bound_with (with_edge b e.value (edges_of more)).0 (with_edge b e.value (edges_of more)).1) (v ∷ key)
        ≡ (is_gt (value_cmp v e.value) || (is_eq (value_cmp v e.value) && (b && over_edges more key)))
    by true h =
        above_step v e.value (edges_of more).0 (edges_of more).1 key (edges_plain more)
        ∙ ap (λ z. is_gt (value_cmp v e.value) || (is_eq (value_cmp v e.value) && z)) h
    by false h = gt_then (value_cmp v e.value) o.Equal

below_is : (edges : List (Option Edge)) (key : List Value) → is_below (bound_of edges) key ≡ under_edges edges key
below_is [] key = refl
below_is (None ∷ more) key = refl
below_is (Some e ∷ more) [] = by e.included
  where
    by : (b : Bool) → is_below (bound_with (with_edge b e.value (edges_of more)).0 (with_edge b e.value (edges_of more)).1) [] ≡ true
    by true = none_below e.value (edges_of more).0 (edges_of more).1
    by false = none_below e.value [] true
below_is (Some e ∷ more) (v ∷ key) = by e.included (below_is more key)
  where
    by : (b : Bool) → is_below (bound_of more) key ≡ under_edges more key
        → is_below (bound_with (with_edge b e.value (edges_of more)).0 (with_edge b e.value (edges_of more)).1) (v ∷ key)
        ≡ (is_lt (value_cmp v e.value) || (is_eq (value_cmp v e.value) && (b && under_edges more key)))
    by true h =
        below_step v e.value (edges_of more).0 (edges_of more).1 key (edges_plain more)
        ∙ ap (λ z. is_lt (value_cmp v e.value) || (is_eq (value_cmp v e.value) && z)) h
    by false h = lt_then (value_cmp v e.value) o.Equal

-- ---- exactness

-- a value that both edges allow, where the lower one isn't less, is their value and included
pins : (l u : Edge) (v : Value) → NotLess l.value u.value → over_edge l v ≡ true → under_edge u v ≡ true
    → (is_gt (value_cmp v l.value) ≡ false) × (is_eq (value_cmp v l.value) ≡ true) × (l.included ≡ true) × (is_lt (value_cmp v u.value) ≡ false) × (is_eq (value_cmp v u.value) ≡ true) × (u.included ≡ true)
pins l u v meet a b = (above_none, lq.0, lq.1, below_none, uq.0, uq.1)
  where
    -- v is at least the lower value
    low : NotLess v l.value
    low = ⊎_elim
        (λ (g : is_gt (value_cmp v l.value) ≡ true). not_lt (value_cmp v l.value) g)
        (λ (q : (is_eq (value_cmp v l.value) && l.included) ≡ true). ap is_lt (at_equal (value_cmp v l.value) (and_parts (is_eq (value_cmp v l.value)) l.included q).0))
        (or_cases (is_gt (value_cmp v l.value)) (is_eq (value_cmp v l.value) && l.included) a)
      where
        not_lt : (o : Ordering) → is_gt o ≡ true → is_lt o ≡ false
        not_lt o.Less e = cc
        not_lt o.Equal e = cc
        not_lt o.Greater e = refl

    high : NotLess u.value v
    high = ⊎_elim
        (λ (g : is_lt (value_cmp v u.value) ≡ true). sym (gt_back v u.value) ∙ not_gt (value_cmp v u.value) g)
        (λ (q : (is_eq (value_cmp v u.value) && u.included) ≡ true). ap is_lt (at_equal (value_cmp u.value v) (eq_back u.value v ∙ (and_parts (is_eq (value_cmp v u.value)) u.included q).0)))
        (or_cases (is_lt (value_cmp v u.value)) (is_eq (value_cmp v u.value) && u.included) b)
      where
        not_gt : (o : Ordering) → is_lt o ≡ true → is_gt o ≡ false
        not_gt o.Less e = refl
        not_gt o.Equal e = cc
        not_gt o.Greater e = cc

    above_none : is_gt (value_cmp v l.value) ≡ false
    above_none = gt_back v l.value ∙ not_less_trans l.value u.value v meet high

    below_none : is_lt (value_cmp v u.value) ≡ false
    below_none = not_less_trans v l.value u.value low meet

    rest : (p q : Bool) → p ≡ false → (p || q) ≡ true → q ≡ true
    rest true q e h = absurd (both_ways true e refl)
    rest false q e h = h

    lq : (is_eq (value_cmp v l.value) ≡ true) × (l.included ≡ true)
    lq = and_parts (is_eq (value_cmp v l.value)) l.included (rest (is_gt (value_cmp v l.value)) (is_eq (value_cmp v l.value) && l.included) above_none a)

    uq : (is_eq (value_cmp v u.value) ≡ true) × (u.included ≡ true)
    uq = and_parts (is_eq (value_cmp v u.value)) u.included (rest (is_lt (value_cmp v u.value)) (is_eq (value_cmp v u.value) && u.included) below_none b)

step_true : (g q i r : Bool) → g ≡ false → q ≡ true → i ≡ true → (g || (q && (i && r))) ≡ r
step_true g q i r a b c = ap (λ z. z || (q && (i && r))) a ∙ (ap (λ z. z && (i && r)) b ∙ ap (λ z. z && r) c)

step_false : (g q i r : Bool) → (g || (q && i)) ≡ false → (g || (q && (i && r))) ≡ false
step_false true q i r h = h
step_false false true true r h = absurd (both_ways true h refl)
step_false false true false r h = refl
step_false false false i r h = refl

and_false : (x y : Bool) → (x && y) ≡ false → (x ≡ false) ⊎ (y ≡ false)
and_false true y h = inr h
and_false false y h = inl refl

zero_right : (x : Bool) → (x && false) ≡ false
zero_right true = refl
zero_right false = refl

pinned_step : (tests : List Test) → Pinned tests → all_bound tests ≡ true → (v : Value) (lows highs : List (Option Edge)) (key : List Value) (r : Bool) → (over_edges lows key && under_edges highs key) ≡ r
    → (over_edges (lower_of tests ∷ lows) (v ∷ key) && under_edges (upper_of tests ∷ highs) (v ∷ key)) ≡ (satisfies_all v tests && r)
pinned_step tests p bound v lows highs key r rest =
    ap (λ z. over_edges (z ∷ lows) (v ∷ key) && under_edges (upper_of tests ∷ highs) (v ∷ key)) p.is_lower
    ∙ (ap (λ z. over_edges (Some p.lower ∷ lows) (v ∷ key) && under_edges (z ∷ highs) (v ∷ key)) p.is_upper
    ∙ by (satisfies_all v tests) refl)
  where
    allowed : satisfies_all v tests ≡ (over_edge p.lower v && under_edge p.upper v)
    allowed = tests_allow tests v bound ∙ (ap (λ z. over_option z v && under_option (upper_of tests) v) p.is_lower ∙ ap (λ z. over_edge p.lower v && under_option z v) p.is_upper)

    by : (b : Bool) → satisfies_all v tests ≡ b → (over_edges (Some p.lower ∷ lows) (v ∷ key) && under_edges (Some p.upper ∷ highs) (v ∷ key)) ≡ (b && r)
    by true e =
        let both = and_parts (over_edge p.lower v) (under_edge p.upper v) (sym allowed ∙ e) in
        let at = pins p.lower p.upper v p.meet both.0 both.1 in
        ap (λ z. z && under_edges (Some p.upper ∷ highs) (v ∷ key)) (step_true (is_gt (value_cmp v p.lower.value)) (is_eq (value_cmp v p.lower.value)) p.lower.included (over_edges lows key) at.0 at.1 at.2)
        ∙ (ap (λ z. over_edges lows key && z) (step_true (is_lt (value_cmp v p.upper.value)) (is_eq (value_cmp v p.upper.value)) p.upper.included (under_edges highs key) at.3 at.4 at.5) ∙ rest)
    by false e = ⊎_elim
        (λ (f : over_edge p.lower v ≡ false). ap (λ z. z && under_edges (Some p.upper ∷ highs) (v ∷ key)) (step_false (is_gt (value_cmp v p.lower.value)) (is_eq (value_cmp v p.lower.value)) p.lower.included (over_edges lows key) f))
        (λ (f : under_edge p.upper v ≡ false).
        ap (λ z. over_edges (Some p.lower ∷ lows) (v ∷ key) && z) (step_false (is_lt (value_cmp v p.upper.value)) (is_eq (value_cmp v p.upper.value)) p.upper.included (under_edges highs key) f)
        ∙ zero_right (over_edges (Some p.lower ∷ lows) (v ∷ key)))
        (and_false (over_edge p.lower v) (under_edge p.upper v) (sym allowed ∙ e))

last_over : (e : Option Edge) (v : Value) (key : List Value) → over_edges (e ∷ []) (v ∷ key) ≡ over_option e v
last_over None v key = refl
last_over (Some e) v key = ap (λ z. is_gt (value_cmp v e.value) || (is_eq (value_cmp v e.value) && z)) (sym (absorb_right e.included true (λ _. refl)))

last_under : (e : Option Edge) (v : Value) (key : List Value) → under_edges (e ∷ []) (v ∷ key) ≡ under_option e v
last_under None v key = refl
last_under (Some e) v key = ap (λ z. is_lt (value_cmp v e.value) || (is_eq (value_cmp v e.value) && z)) (sym (absorb_right e.included true (λ _. refl)))

edges_exact : (columns : List (List Test)) (key : List Value) → all_columns_bound columns ≡ true → length columns ≤ length key
    → (over_edges (map lower_of (taken columns)) key && under_edges (map upper_of (taken columns)) key) ≡ passes_tests (taken columns) key
edges_exact [] key bound long = refl
edges_exact ([] ∷ more) key bound long = refl
edges_exact ((t ∷ tests) ∷ more) [] bound long = absurd (omega arith)
edges_exact ((t ∷ tests) ∷ more) (v ∷ key) bound long = by (fixes (t ∷ tests)) refl (edges_exact more key p.1 (omega arith))
  where
    p : (all_bound (t ∷ tests) ≡ true) × (all_columns_bound more ≡ true)
    p = and_parts (all_bound (t ∷ tests)) (all_columns_bound more) bound

    by : (b : Bool) → fixes (t ∷ tests) ≡ b
        → (over_edges (map lower_of (taken more)) key && under_edges (map upper_of (taken more)) key) ≡ passes_tests (taken more) key
        → (over_edges (map lower_of (if b then (t ∷ tests) ∷ taken more else (t ∷ tests) ∷ [])) (v ∷ key) && under_edges (map upper_of (if b then (t ∷ tests) ∷ taken more else (t ∷ tests) ∷ [])) (v ∷ key))
        ≡ passes_tests (if b then (t ∷ tests) ∷ taken more else (t ∷ tests) ∷ []) (v ∷ key)
    by true e rest = pinned_step (t ∷ tests) (pinned (t ∷ tests) e) p.0 v (map lower_of (taken more)) (map upper_of (taken more)) key (passes_tests (taken more) key) rest
    by false e rest =
        ap (λ z. z && under_edges (upper_of (t ∷ tests) ∷ []) (v ∷ key)) (last_over (lower_of (t ∷ tests)) v key)
        ∙ (ap (λ z. over_option (lower_of (t ∷ tests)) v && z) (last_under (upper_of (t ∷ tests)) v key)
        ∙ (sym (tests_allow (t ∷ tests) v p.0) ∙ absorb_right (satisfies_all v (t ∷ tests)) true (λ _. refl)))

-- the interval of the tests on the columns of an index holds exactly the keys that satisfy those that are taken
pub holds_exactly : (columns : List (List Test)) (key : List Value) → all_columns_bound columns ≡ true → length columns ≤ length key → holds (interval_of columns) key ≡ passes_tests (taken columns) key
unfolding interval_of
holds_exactly columns key bound long =
    ap (λ z. z && is_below (bound_of (map upper_of (taken columns))) key) (above_is (map lower_of (taken columns)) key)
    ∙ (ap (λ z. over_edges (map lower_of (taken columns)) key && z) (below_is (map upper_of (taken columns)) key) ∙ edges_exact columns key bound long)
