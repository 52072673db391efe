-- The outcome of an expression depends on the columns that it reads alone.
use Rattle.std.proofs.Common.{◌≡◌, ℕ, true, List, [], ◌∷◌, ◌++◌, map, Some, None, refl, sym, ap, ◌∙◌, subst}
use Rattle.std.specs.List.{flat_map}
use Rattle.std.proofs.lemmas.Bool.{and_parts}
use Rattle.wat_ast.specs.declared.expression.Expr.{Expr, ind-Expr, map-Expr, roll-Expr}
use Rattle.wat_ast.specs.declared.expression.Expr.TheVariants as e
use Rattle.wat_ast.specs.declared.expression.Expr.TheOpen.{Expr-F}
use Rattle.wat_walk.specs.Parts.{Spot, bare_in}
use Rattle.wat_typing.proofs.BareLemmas.{bare-Placed, bare-Unary, bare-Binary, bare-IsNull, bare-Between, bare-InList}
use Rattle.wat_expr.specs.declared.outcome.Outcome.TheVariants as o
use Rattle.wat_expr.specs.Logic.{negated_if, null_test}
use Rattle.wat_expr.specs.Operators.{unary, binary, between, among}
use Rattle.wat_expr.specs.Evaluation.{Combination, over, value_at, outcome_of}
use Rattle.wat_expr.proofs.EvaluationLemmas.{outcome-Literal, outcome-Named, outcome-Placed, outcome-Unary, outcome-Binary, outcome-IsNull, outcome-Between, outcome-InList, outcome-Aggregate}
use Rattle.wat_conjuncts.specs.Limits.{is_among, reads_only}
use Rattle.wat_conjuncts.specs.Outside.{AgreeIn}
use Rattle.wat_conjuncts.proofs.ReadingLemmas.{all_among}

-- two combinations have the same values there
abbrev pub SameAt : Combination → Combination → List Spot → Type 0
SameAt a b [] = Unit {0}
SameAt a b (s ∷ ss) = (value_at a s.0 s.1 ≡ value_at b s.0 s.1) × SameAt a b ss

same_left : (a b : Combination) (xs ys : List Spot) → SameAt a b (xs ++ ys) → SameAt a b xs
same_left a b [] ys h = tt
same_left a b (x ∷ xs) ys h = (h.0, same_left a b xs ys h.1)

same_right : (a b : Combination) (xs ys : List Spot) → SameAt a b (xs ++ ys) → SameAt a b ys
same_right a b [] ys h = h
same_right a b (x ∷ xs) ys h = same_right a b xs ys h.1

abbrev Claim : Expr → Type 0
Claim x = (a b : Combination) → SameAt a b (bare_in x) → outcome_of x (over a) ≡ outcome_of x (over b)

items_same : {S : Type 0} (ex : S → Expr) (pr : (y : S) → Claim (ex y)) (xs : List S) (a b : Combination) → SameAt a b (flat_map bare_in (map ex xs))
    → map (λ x. outcome_of x (over a)) (map ex xs) ≡ map (λ x. outcome_of x (over b)) (map ex xs)
items_same ex pr [] a b h = refl
items_same ex pr (x ∷ xs) a b h =
    ap (λ z. z ∷ map (λ x. outcome_of x (over a)) (map ex xs)) (pr x a b (same_left a b (bare_in (ex x)) (flat_map bare_in (map ex xs)) h))
    ∙ ap (λ z. outcome_of (ex x) (over b) ∷ z) (items_same ex pr xs a b (same_right a b (bare_in (ex x)) (flat_map bare_in (map ex xs)) h))

step : {S : Type 0} (ex : S → Expr) (pr : (y : S) → Claim (ex y)) (y : Expr-F S) → Claim (roll-Expr (map-Expr S Expr ex y))
step ex pr (Expr-F.Literal w) = subst Claim (sym (e.rolls-Literal w)) (λ a b h. outcome-Literal w (over a) ∙ sym (outcome-Literal w (over b)))
step ex pr (Expr-F.Named table n) = subst Claim (sym (e.rolls-Named table n)) (λ a b h. outcome-Named table n (over a) ∙ sym (outcome-Named table n (over b)))
step ex pr (Expr-F.Placed s c) = subst Claim (sym (e.rolls-Placed s c))
    (λ a b h. outcome-Placed s c (over a) ∙ (ap o.Is (subst (SameAt a b) (bare-Placed s c) h).0 ∙ sym (outcome-Placed s c (over b))))
step ex pr (Expr-F.Unary op x) = subst Claim (sym (e.rolls-Unary op (ex x)))
    (λ a b h. outcome-Unary op (ex x) (over a) ∙ (ap (unary op) (pr x a b (subst (SameAt a b) (bare-Unary op (ex x)) h)) ∙ sym (outcome-Unary op (ex x) (over b))))
step ex pr (Expr-F.Binary op x y) = subst Claim (sym (e.rolls-Binary op (ex x) (ex y)))
    (λ a b h.
    let k = subst (SameAt a b) (bare-Binary op (ex x) (ex y)) h in
    outcome-Binary op (ex x) (ex y) (over a)
    ∙ (ap (λ z. binary op z (outcome_of (ex y) (over a))) (pr x a b (same_left a b (bare_in (ex x)) (bare_in (ex y)) k))
    ∙ (ap (binary op (outcome_of (ex x) (over b))) (pr y a b (same_right a b (bare_in (ex x)) (bare_in (ex y)) k)) ∙ sym (outcome-Binary op (ex x) (ex y) (over b)))))
step ex pr (Expr-F.IsNull x n) = subst Claim (sym (e.rolls-IsNull (ex x) n))
    (λ a b h. outcome-IsNull (ex x) n (over a) ∙ (ap (λ z. negated_if n (null_test z)) (pr x a b (subst (SameAt a b) (bare-IsNull (ex x) n) h)) ∙ sym (outcome-IsNull (ex x) n (over b))))
step ex pr (Expr-F.Between x l u n) = subst Claim (sym (e.rolls-Between (ex x) (ex l) (ex u) n))
    (λ a b h.
    let k = subst (SameAt a b) (bare-Between (ex x) (ex l) (ex u) n) h in
    let two = same_left a b (bare_in (ex x) ++ bare_in (ex l)) (bare_in (ex u)) k in
    outcome-Between (ex x) (ex l) (ex u) n (over a)
    ∙ (ap (λ z. negated_if n (between z (outcome_of (ex l) (over a)) (outcome_of (ex u) (over a)))) (pr x a b (same_left a b (bare_in (ex x)) (bare_in (ex l)) two))
    ∙ (ap (λ z. negated_if n (between (outcome_of (ex x) (over b)) z (outcome_of (ex u) (over a)))) (pr l a b (same_right a b (bare_in (ex x)) (bare_in (ex l)) two))
    ∙ (ap (λ z. negated_if n (between (outcome_of (ex x) (over b)) (outcome_of (ex l) (over b)) z)) (pr u a b (same_right a b (bare_in (ex x) ++ bare_in (ex l)) (bare_in (ex u)) k))
    ∙ sym (outcome-Between (ex x) (ex l) (ex u) n (over b))))))
step ex pr (Expr-F.InList x xs n) = subst Claim (sym (e.rolls-InList (ex x) (map ex xs) n))
    (λ a b h.
    let k = subst (SameAt a b) (bare-InList (ex x) (map ex xs) n) h in
    outcome-InList (ex x) (map ex xs) n (over a)
    ∙ (ap (λ z. negated_if n (among z (map (λ y. outcome_of y (over a)) (map ex xs)))) (pr x a b (same_left a b (bare_in (ex x)) (flat_map bare_in (map ex xs)) k))
    ∙ (ap (λ z. negated_if n (among (outcome_of (ex x) (over b)) z)) (items_same ex pr xs a b (same_right a b (bare_in (ex x)) (flat_map bare_in (map ex xs)) k))
    ∙ sym (outcome-InList (ex x) (map ex xs) n (over b)))))
step ex pr (Expr-F.Aggregate kind None) = subst Claim (sym (e.rolls-Aggregate kind None)) (λ a b h. outcome-Aggregate kind None a ∙ sym (outcome-Aggregate kind None b))
step ex pr (Expr-F.Aggregate kind (Some x)) = subst Claim (sym (e.rolls-Aggregate kind (Some (ex x)))) (λ a b h. outcome-Aggregate kind (Some (ex x)) a ∙ sym (outcome-Aggregate kind (Some (ex x)) b))

-- an expression has one outcome over combinations with the same values in the columns that it reads
pub reads_same : (x : Expr) (a b : Combination) → SameAt a b (bare_in x) → outcome_of x (over a) ≡ outcome_of x (over b)
reads_same = ind-Expr Claim (λ x y q. subst (λ (z : Expr-F Expr). Claim (roll-Expr z)) q (step (λ z. z.0) (λ z. z.1) y))

same_spots : (sources : List ℕ) (a b : Combination) → AgreeIn sources a b → (spots : List Spot) → all_among sources spots ≡ true → SameAt a b spots
same_spots sources a b same [] h = tt
same_spots sources a b same (s ∷ ss) h =
    let p = and_parts (is_among sources s.0) (all_among sources ss) h in
    (same s.0 p.0 s.1, same_spots sources a b same ss p.1)

-- what reads these sources alone
pub reads_only_same : (sources : List ℕ) (x : Expr) (a b : Combination) → AgreeIn sources a b → reads_only sources x ≡ true → outcome_of x (over a) ≡ outcome_of x (over b)
reads_only_same sources x a b same h = reads_same x a b (same_spots sources a b same (bare_in x) h)
