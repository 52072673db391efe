-- Which sources an expression reads, by its kind.
use Rattle.std.proofs.Common.{◌≡◌, ℕ, zero, suc, ◌+◌, ◌<◌, ◌≤◌, Bool, true, false, ◌&&◌, List, [], ◌∷◌, ◌++◌, length, take, get_or, map, flat_map, Option, refl, sym, ap, ◌∙◌, arith}
use Rattle.std.specs.List.{list_all}
use Rattle.std.proofs.lemmas.List.{take_more, take_all}
use Rattle.wat_value.specs.declared.value.Value.{Value}
use Rattle.wat_ast.specs.declared.expression.UnaryOp.{UnaryOp}
use Rattle.wat_ast.specs.declared.expression.BinaryOp.{BinaryOp}
use Rattle.wat_ast.specs.declared.expression.AggregateKind.{AggregateKind}
use Rattle.wat_ast.specs.declared.expression.Expr.{Expr}
use Rattle.wat_ast.specs.declared.expression.Expr.TheVariants as e
use Rattle.wat_walk.specs.Parts.{Spot, bare_in}
use Rattle.wat_typing.proofs.BareLemmas.{bare-Literal, bare-Named, bare-Placed, bare-Unary, bare-Binary, bare-IsNull, bare-Between, bare-InList, bare-Aggregate}
use Rattle.wat_conjuncts.specs.Limits.{is_among, reads_only}

-- the sources of these columns are among those
abbrev pub all_among : List ℕ → List Spot → Bool
all_among sources spots = list_all (is_among sources) (map (λ (spot : Spot). spot.0) spots)

and_assoc : (x y z : Bool) → ((x && y) && z) ≡ (x && (y && z))
and_assoc true y z = refl
and_assoc false y z = refl

all_among-append : (sources : List ℕ) (xs ys : List Spot) → all_among sources (xs ++ ys) ≡ (all_among sources xs && all_among sources ys)
all_among-append sources [] ys = refl
all_among-append sources (x ∷ xs) ys =
    ap (λ z. is_among sources x.0 && z) (all_among-append sources xs ys) ∙ sym (and_assoc (is_among sources x.0) (all_among sources xs) (all_among sources ys))

and-true : (x : Bool) → (x && true) ≡ x
and-true true = refl
and-true false = refl

module _ (sources : List ℕ) where
  pub reads-Literal : (v : Value) → reads_only sources (e.Literal v) ≡ true
  reads-Literal v = ap (all_among sources) (bare-Literal v)

  pub reads-Named : (table : Option (List ℕ)) (name : List ℕ) → reads_only sources (e.Named table name) ≡ true
  reads-Named table name = ap (all_among sources) (bare-Named table name)

  pub reads-Placed : (source column : ℕ) → reads_only sources (e.Placed source column) ≡ is_among sources source
  reads-Placed source column = ap (all_among sources) (bare-Placed source column) ∙ and-true (is_among sources source)

  pub reads-Unary : (op : UnaryOp) (a : Expr) → reads_only sources (e.Unary op a) ≡ reads_only sources a
  reads-Unary op a = ap (all_among sources) (bare-Unary op a)

  pub reads-Binary : (op : BinaryOp) (a b : Expr) → reads_only sources (e.Binary op a b) ≡ (reads_only sources a && reads_only sources b)
  reads-Binary op a b = ap (all_among sources) (bare-Binary op a b) ∙ all_among-append sources (bare_in a) (bare_in b)

  pub reads-IsNull : (a : Expr) (negated : Bool) → reads_only sources (e.IsNull a negated) ≡ reads_only sources a
  reads-IsNull a negated = ap (all_among sources) (bare-IsNull a negated)

  pub reads-Between : (a low high : Expr) (negated : Bool) → reads_only sources (e.Between a low high negated) ≡ ((reads_only sources a && reads_only sources low) && reads_only sources high)
  reads-Between a low high negated =
      ap (all_among sources) (bare-Between a low high negated)
      ∙ (all_among-append sources (bare_in a ++ bare_in low) (bare_in high) ∙ ap (λ z. z && reads_only sources high) (all_among-append sources (bare_in a) (bare_in low)))

  all-items : (items : List Expr) → all_among sources (flat_map bare_in items) ≡ list_all (reads_only sources) items
  all-items [] = refl
  all-items (x ∷ items) = all_among-append sources (bare_in x) (flat_map bare_in items) ∙ ap (λ z. reads_only sources x && z) (all-items items)

  pub reads-InList : (a : Expr) (items : List Expr) (negated : Bool) → reads_only sources (e.InList a items negated) ≡ (reads_only sources a && list_all (reads_only sources) items)
  reads-InList a items negated =
      ap (all_among sources) (bare-InList a items negated)
      ∙ (all_among-append sources (bare_in a) (flat_map bare_in items) ∙ ap (λ z. reads_only sources a && z) (all-items items))

  pub reads-Aggregate : (kind : AggregateKind) (arg : Option Expr) → reads_only sources (e.Aggregate kind arg) ≡ true
  reads-Aggregate kind arg = ap (all_among sources) (bare-Aggregate kind arg)

pub ruleset kinds = (reads-Literal, reads-Named, reads-Placed, reads-Unary, reads-IsNull, reads-Between, reads-InList, reads-Aggregate)

-- an operation reads what both operands read
abbrev pub both : BinaryOp → Bool → Bool → Bool
both op left right = left && right

-- ---- lists of expressions

list_all-push : {X : Type 0} (p : X → Bool) (xs : List X) (x : X) → list_all p (xs ++ x ∷ []) ≡ (list_all p xs && p x)
list_all-push p [] x = and-true (p x)
list_all-push p (y ∷ ys) x = ap (λ z. p y && z) (list_all-push p ys x) ∙ sym (and_assoc (p y) (list_all p ys) (p x))

pub all_next : {X : Type 0} (p : X → Bool) (xs : List X) (i : ℕ) (x : X) → i < length xs → x ≡ get_or xs i x → p x ≡ true → list_all p (take i xs) ≡ true → list_all p (take (i + 1) xs) ≡ true
all_next p xs i x within is here before =
    ap (list_all p) (take_more xs i x within ∙ ap (λ z. take i xs ++ z ∷ []) (sym is)) ∙ (list_all-push p (take i xs) x ∙ (ap (λ z. z && p x) before ∙ here))

and-false : (x : Bool) → (x && false) ≡ false
and-false true = refl
and-false false = refl

pub one_fails : {X : Type 0} (p : X → Bool) (xs : List X) (i : ℕ) (x : X) → i < length xs → x ≡ get_or xs i x → p x ≡ false → list_all p xs ≡ false
one_fails p [] i x within is here = absurd (omega (arith, within))
one_fails p (y ∷ ys) zero x within is here = ap (λ z. z && list_all p ys) (ap p (sym is) ∙ here)
one_fails p (y ∷ ys) (suc i) x within is here = ap (λ z. p y && z) (one_fails p ys i x (omega (arith, within)) is here) ∙ and-false (p y)

pub all_passed : {X : Type 0} (p : X → Bool) (xs : List X) (i : ℕ) → length xs ≤ i → list_all p (take i xs) ≡ true → list_all p xs ≡ true
all_passed p xs i past before = ap (list_all p) (sym (take_all i xs past)) ∙ before
