-- The edges of tests and the bounds of columns, one after another.
use Rattle.std.proofs.Common.{◌≡◌, ℕ, ◌+◌, ◌<◌, ◌≤◌, Bool, true, false, List, [], ◌∷◌, ◌++◌, length, take, drop, map, get_or, Option, Some, None, refl, sym, ap, ◌∙◌, append-nil, append_assoc}
use Rattle.std.specs.List.{filter_map, reduce, cons_option}
use Rattle.std.specs.Option.{option_map_or}
use Rattle.std.proofs.lemmas.List.{take_more, drop_more, drop_all}
use Rattle.wat_value.specs.declared.value.Value.{Value}
use Rattle.wat_value.specs.declared.bound.Bound.{Bound}
use Rattle.wat_value.specs.declared.bound.Bound.TheVariants.{Excluding}
use Rattle.wat_expr.proofs.AggregateLemmas.{filter_map_push, reduce_push}
use Rattle.wat_value.specs.declared.bound.Interval.{Interval}
use Rattle.wat_interval.specs.declared.edge.End.{End}
use Rattle.wat_interval.specs.declared.edge.End.TheVariants.{Lower, Upper}
use Rattle.wat_interval.specs.declared.test.Test.{Test}
use Rattle.wat_interval.specs.Intervals.{Edge, with_edge, edges_of, bound_with, interval_of}
use Rattle.wat_interval.specs.Tests.{taken}
use Rattle.wat_interval.specs.Ends.{edge_at, tighter_at, tightest_at, joined_at, bound_at}

-- ---- edges

joined_some : (end : End) (found : Option Edge) (e : Edge) → Some (option_map_or (λ v. tighter_at end v e) found e) ≡ joined_at end found (Some e)
joined_some end None e = refl
joined_some end (Some a) e = refl

tightest_push : (end : End) (tests : List Test) (t : Test) → tightest_at end (tests ++ t ∷ []) ≡ joined_at end (tightest_at end tests) (edge_at end t)
tightest_push end tests t = ap (reduce (tighter_at end)) (filter_map_push (edge_at end) tests t) ∙ by (edge_at end t)
  where
    by : (o : Option Edge) → reduce (tighter_at end) (filter_map (edge_at end) tests ++ cons_option o []) ≡ joined_at end (tightest_at end tests) o
    by None = ap (reduce (tighter_at end)) (append-nil (filter_map (edge_at end) tests))
    by (Some e) = reduce_push (tighter_at end) (filter_map (edge_at end) tests) e ∙ joined_some end (tightest_at end tests) e

-- one test more
pub tightest_next : (end : End) (tests : List Test) (i : ℕ) (t : Test) (found : Option Edge) → i < length tests → t ≡ get_or tests i t → found ≡ tightest_at end (take i tests)
    → joined_at end found (edge_at end t) ≡ tightest_at end (take (i + 1) tests)
tightest_next end tests i t found within is before =
    ap (λ o. joined_at end o (edge_at end t)) before
    ∙ (sym (tightest_push end (take i tests) t) ∙ ap (tightest_at end) (ap (λ x. take i tests ++ x ∷ []) is ∙ sym (take_more tests i t within)))

-- ---- bounds

-- the values of a bound over these columns, and whether it excludes
abbrev pub edges : End → List (List Test) → List Value × Bool
edges end columns = edges_of (map (tightest_at end) columns)

-- the bound over all columns is these values and what the columns that are left give
pub record IsSoFar (end : End) (columns : List (List Test)) (i : ℕ) (key : List Value) : Type 0 where
  pub values : (edges end columns).0 ≡ key ++ (edges end (drop i columns)).0
  pub excludes : (edges end columns).1 ≡ (edges end (drop i columns)).1

pub begun : (end : End) (columns : List (List Test)) → IsSoFar end columns 0 []
begun end columns = record { values = refl; excludes = refl }

rest_is : (columns : List (List Test)) (i : ℕ) (tests : List Test) → i < length columns → tests ≡ get_or columns i tests → drop i columns ≡ tests ∷ drop (i + 1) columns
rest_is columns i tests within is = drop_more columns i tests within ∙ ap (λ x. x ∷ drop (i + 1) columns) (sym is)

edges_here : (end : End) (tests : List Test) (more : List (List Test)) (e : Edge) (b : Bool) → tightest_at end tests ≡ Some e → e.included ≡ b → edges end (tests ∷ more) ≡ with_edge b e.value (edges end more)
edges_here end tests more e b found is = ap (λ o. edges_of (o ∷ map (tightest_at end) more)) found ∙ ap (λ x. with_edge x e.value (edges end more)) is

edges_none : (end : End) (tests : List Test) (more : List (List Test)) → tightest_at end tests ≡ None → edges end (tests ∷ more) ≡ ([], false)
edges_none end tests more found = ap (λ o. edges_of (o ∷ map (tightest_at end) more)) found

-- one column more
pub next : (end : End) (columns : List (List Test)) (i : ℕ) (key : List Value) (tests : List Test) (e : Edge) → i < length columns → tests ≡ get_or columns i tests → tightest_at end tests ≡ Some e → e.included ≡ true
    → IsSoFar end columns i key → IsSoFar end columns (i + 1) (key ++ e.value ∷ [])
next end columns i key tests e within is found included so =
    let here : edges end (drop i columns) ≡ (e.value ∷ (edges end (drop (i + 1) columns)).0, (edges end (drop (i + 1) columns)).1) = ap (edges end) (rest_is columns i tests within is) ∙ edges_here end tests (drop (i + 1) columns) e true found included in
    record {
      values = so.values ∙ (ap (λ (p : List Value × Bool). key ++ p.0) here ∙ sym (append_assoc key (e.value ∷ []) (edges end (drop (i + 1) columns)).0));
      excludes = so.excludes ∙ ap (λ (p : List Value × Bool). p.1) here;
    }

plain : (end : End) (columns : List (List Test)) (i : ℕ) (key : List Value) → edges end (drop i columns) ≡ ([], false) → IsSoFar end columns i key → bound_with key false ≡ bound_at end columns
plain end columns i key none so = sym (
    ap (λ vs. bound_with vs (edges end columns).1) (so.values ∙ (ap (λ (p : List Value × Bool). key ++ p.0) none ∙ append-nil key))
    ∙ ap (bound_with key) (so.excludes ∙ ap (λ (p : List Value × Bool). p.1) none))

-- a column without an edge
pub stopped : (end : End) (columns : List (List Test)) (i : ℕ) (key : List Value) (tests : List Test) → i < length columns → tests ≡ get_or columns i tests → tightest_at end tests ≡ None
    → IsSoFar end columns i key → bound_with key false ≡ bound_at end columns
stopped end columns i key tests within is found so = plain end columns i key (ap (edges end) (rest_is columns i tests within is) ∙ edges_none end tests (drop (i + 1) columns) found) so

-- no column is left
pub ended : (end : End) (columns : List (List Test)) (i : ℕ) (key : List Value) → length columns ≤ i → IsSoFar end columns i key → bound_with key false ≡ bound_at end columns
ended end columns i key past so = plain end columns i key (ap (edges end) (drop_all i columns past)) so

excluding_is : (key : List Value) (v : Value) → bound_with (key ++ v ∷ []) true ≡ Excluding (key ++ v ∷ [])
excluding_is [] v = refl
excluding_is (k ∷ key) v = refl

-- an exclusive value
pub cut : (end : End) (columns : List (List Test)) (i : ℕ) (key : List Value) (tests : List Test) (e : Edge) → i < length columns → tests ≡ get_or columns i tests → tightest_at end tests ≡ Some e → e.included ≡ false
    → IsSoFar end columns i key → Excluding (key ++ e.value ∷ []) ≡ bound_at end columns
cut end columns i key tests e within is found excluded so =
    let here : edges end (drop i columns) ≡ (e.value ∷ [], true) = ap (edges end) (rest_is columns i tests within is) ∙ edges_here end tests (drop (i + 1) columns) e false found excluded in
    sym (ap (λ vs. bound_with vs (edges end columns).1) (so.values ∙ ap (λ (p : List Value × Bool). key ++ p.0) here)
    ∙ (ap (bound_with (key ++ e.value ∷ [])) (so.excludes ∙ ap (λ (p : List Value × Bool). p.1) here) ∙ excluding_is key e.value))

abbrev pair : Bound → Bound → Interval
pair a b = record { lower = a; upper = b }

-- both bounds over the columns that are taken
pub both_bounds : (columns used : List (List Test)) (lower upper : Bound) → used ≡ taken columns → lower ≡ bound_at Lower used → upper ≡ bound_at Upper used → ◌≡◌ {A = Interval} (record { lower = lower; upper = upper }) (interval_of columns)
unfolding interval_of
both_bounds columns used lower upper same is_lower is_upper =
    ap (λ (b : Bound). pair b upper) (is_lower ∙ ap (bound_at Lower) same) ∙ ap (λ (b : Bound). pair (bound_at Lower (taken columns)) b) (is_upper ∙ ap (bound_at Upper) same)
