-- The comparisons of a condition by its kind, and the expressions that are still to be gone through.
use Rattle.std.proofs.Common.{◌≡◌, ◌≢◌, ℕ, ◌+◌, ◌<◌, Bool, true, false, List, [], ◌∷◌, ◌++◌, map, reverse, sum_by, flat_map, Option, Some, None, Bor, refl, sym, ap, ◌∙◌, append_assoc, append-nil, subst, if◌then◌else◌, arith}
use Rattle.std.proofs.lemmas.List.{map-append, reverse-append}
use Rattle.std.proofs.lemmas.List.Sums.{sum_by-append}
use Rattle.wat_value.specs.declared.value.Value.{Value}
use Rattle.wat_ast.specs.declared.expression.UnaryOp.{UnaryOp}
use Rattle.wat_ast.specs.declared.expression.AggregateKind.{AggregateKind}
use Rattle.wat_ast.specs.declared.expression.BinaryOp.{BinaryOp}
use Rattle.wat_ast.specs.declared.expression.BinaryOp.TheVariants.{Or, And, Equal, Unequal, Less, AtMost, Greater, AtLeast, Add, Subtract, Concat, Multiply, Divide}
use Rattle.wat_ast.specs.declared.expression.Expr.{Expr}
use Rattle.wat_ast.specs.declared.expression.Expr.TheVariants as e
use Rattle.wat_ast.specs.declared.expression.Expr.TheOpen.{Expr-F}
use Rattle.wat_ast.specs.declared.expression.Expr.TheFolds.{fold-Expr}
use Rattle.wat_walk.specs.Lent.{lent}
use Rattle.wat_walk.proofs.FoldLemmas.{fold-Binary, para-Literal, para-Named, para-Placed, para-Unary, para-Binary, para-IsNull, para-Between, para-InList, para-Count, para-Aggregate}
use Rattle.wat_interval.specs.Tests.{is_bounding}
use Rattle.wat_conjuncts.specs.Conjuncts.{Comparison, compared, ranged, conjuncts_step, conjuncts_in}

-- ---- by kind

pub conjuncts-Literal : (v : Value) → conjuncts_in (e.Literal v) ≡ []
unfolding conjuncts_in
conjuncts-Literal v = para-Literal conjuncts_step v

pub conjuncts-Named : (table : Option (List ℕ)) (name : List ℕ) → conjuncts_in (e.Named table name) ≡ []
unfolding conjuncts_in
conjuncts-Named table name = para-Named conjuncts_step table name

pub conjuncts-Placed : (source column : ℕ) → conjuncts_in (e.Placed source column) ≡ []
unfolding conjuncts_in
conjuncts-Placed source column = para-Placed conjuncts_step source column

pub conjuncts-Unary : (op : UnaryOp) (a : Expr) → conjuncts_in (e.Unary op a) ≡ []
unfolding conjuncts_in
conjuncts-Unary op a = para-Unary conjuncts_step op a

pub conjuncts-IsNull : (a : Expr) (negated : Bool) → conjuncts_in (e.IsNull a negated) ≡ []
unfolding conjuncts_in
conjuncts-IsNull a negated = para-IsNull conjuncts_step a negated

pub conjuncts-range : (a low high : Expr) → conjuncts_in (e.Between a low high false) ≡ ranged a low high
unfolding conjuncts_in
conjuncts-range a low high = para-Between conjuncts_step a low high false

pub conjuncts-no_range : (a low high : Expr) → conjuncts_in (e.Between a low high true) ≡ []
unfolding conjuncts_in
conjuncts-no_range a low high = para-Between conjuncts_step a low high true

pub conjuncts-InList : (a : Expr) (items : List Expr) (negated : Bool) → conjuncts_in (e.InList a items negated) ≡ []
unfolding conjuncts_in
conjuncts-InList a items negated = para-InList conjuncts_step a items negated

pub conjuncts-Aggregate : (kind : AggregateKind) (arg : Option Expr) → conjuncts_in (e.Aggregate kind arg) ≡ []
unfolding conjuncts_in
conjuncts-Aggregate kind None = para-Count conjuncts_step kind
conjuncts-Aggregate kind (Some a) = para-Aggregate conjuncts_step kind a

pub conjuncts-And : (a b : Expr) → conjuncts_in (e.Binary And a b) ≡ conjuncts_in a ++ conjuncts_in b
unfolding conjuncts_in
conjuncts-And a b = para-Binary conjuncts_step And a b

pub conjuncts-Binary : (op : BinaryOp) (a b : Expr) → op ≢ And → conjuncts_in (e.Binary op a b) ≡ compared op a b
unfolding conjuncts_in
conjuncts-Binary Or a b ne = para-Binary conjuncts_step Or a b
conjuncts-Binary And a b ne = absurd (ne refl)
conjuncts-Binary Equal a b ne = para-Binary conjuncts_step Equal a b
conjuncts-Binary Unequal a b ne = para-Binary conjuncts_step Unequal a b
conjuncts-Binary Less a b ne = para-Binary conjuncts_step Less a b
conjuncts-Binary AtMost a b ne = para-Binary conjuncts_step AtMost a b
conjuncts-Binary Greater a b ne = para-Binary conjuncts_step Greater a b
conjuncts-Binary AtLeast a b ne = para-Binary conjuncts_step AtLeast a b
conjuncts-Binary Add a b ne = para-Binary conjuncts_step Add a b
conjuncts-Binary Subtract a b ne = para-Binary conjuncts_step Subtract a b
conjuncts-Binary Concat a b ne = para-Binary conjuncts_step Concat a b
conjuncts-Binary Multiply a b ne = para-Binary conjuncts_step Multiply a b
conjuncts-Binary Divide a b ne = para-Binary conjuncts_step Divide a b

no_and : (op : BinaryOp) (a b whole : Expr) → whole ≡ e.Binary op a b → ((left right : Expr) → whole ≢ e.Binary And left right) → op ≢ And
no_and op a b whole is none same = none a b (is ∙ ap (λ o. e.Binary o a b) same)

abbrev one : BinaryOp → Expr → Expr → List Comparison
one op a b = record { op = op; left = a; right = b } ∷ []

-- an operation that is a comparison
pub is_compared : (op : BinaryOp) (a b whole : Expr) → whole ≡ e.Binary op a b → ((left right : Expr) → whole ≢ e.Binary And left right) → is_bounding op ≡ true → conjuncts_in whole ≡ record { op = op; left = a; right = b } ∷ []
is_compared op a b whole is none bounds =
    ap conjuncts_in is ∙ (conjuncts-Binary op a b (no_and op a b whole is none) ∙ ap (λ t. if t then record { op = op; left = a; right = b } ∷ [] else []) bounds)

-- the comparison of these sides, where they are those of the operation
pub compared_here : (op : BinaryOp) (a b x y whole : Expr) → x ≡ a → y ≡ b → whole ≡ e.Binary op a b → ((left right : Expr) → whole ≢ e.Binary And left right) → is_bounding op ≡ true
    → ◌≡◌ {A = List Comparison} (record { op = op; left = x; right = y } ∷ []) (conjuncts_in whole)
compared_here op a b x y whole left right is none bounds =
    ap (λ z. one op z y) left ∙ (ap (one op a) right ∙ sym (is_compared op a b whole is none bounds))

-- one that is none
pub not_compared : (op : BinaryOp) (a b whole : Expr) → whole ≡ e.Binary op a b → ((left right : Expr) → whole ≢ e.Binary And left right) → is_bounding op ≡ false → conjuncts_in whole ≡ []
not_compared op a b whole is none bounds =
    ap conjuncts_in is ∙ (conjuncts-Binary op a b (no_and op a b whole is none) ∙ ap (λ t. if t then record { op = op; left = a; right = b } ∷ [] else []) bounds)

pub ruleset parts = (append_assoc, append-nil, conjuncts-Literal, conjuncts-Named, conjuncts-Placed, conjuncts-Unary, conjuncts-IsNull, conjuncts-range, conjuncts-no_range, conjuncts-InList, conjuncts-Aggregate)

-- ---- the expressions that are left

-- how many steps an expression takes at most
weight_step : Expr-F ℕ → ℕ
weight_step (Expr-F.Binary op a b) = a + b + 2
weight_step x = 0

pub weight : Expr → ℕ
weight = fold-Expr ℕ weight_step

weight-Binary : (op : BinaryOp) (a b : Expr) → weight (e.Binary op a b) ≡ weight a + weight b + 2
unfolding weight weight_step
weight-Binary op a b = fold-Binary weight_step op a b

pub left_over : List (Bor Expr) → ℕ
left_over rest = sum_by (λ (x : Bor Expr). weight x.now + 1) rest

-- those that are left, the next one first
abbrev pub waiting : List (Bor Expr) → List Comparison
waiting rest = flat_map conjuncts_in (reverse (lent rest))

pub waiting-pop : (rest : List (Bor Expr)) (x : Bor Expr) → waiting (rest ++ x ∷ []) ≡ conjuncts_in x.now ++ waiting rest
waiting-pop rest x = ap (flat_map conjuncts_in) (ap reverse (map-append (λ (y : Bor Expr). y.now) rest (x ∷ [])) ∙ reverse-append (lent rest) (x.now ∷ []))

pub left_over-pop : (rest : List (Bor Expr)) (x : Bor Expr) → left_over (rest ++ x ∷ []) ≡ left_over rest + (weight x.now + 1)
unfolding left_over
left_over-pop rest x = let s = sum_by-append (λ (y : Bor Expr). weight y.now + 1) rest (x ∷ []) in omega (arith, s)

-- an AND gives way to its two sides
pub sides_wait : (rest : List (Bor Expr)) (x left right : Bor Expr) → x.now ≡ e.Binary And left.now right.now → waiting ((rest ++ right ∷ []) ++ left ∷ []) ≡ waiting (rest ++ x ∷ [])
sides_wait rest x left right is =
    waiting-pop (rest ++ right ∷ []) left
    ∙ (ap (λ z. conjuncts_in left.now ++ z) (waiting-pop rest right)
    ∙ (sym (append_assoc (conjuncts_in left.now) (conjuncts_in right.now) (waiting rest))
    ∙ (ap (λ z. z ++ waiting rest) (sym (conjuncts-And left.now right.now) ∙ ap conjuncts_in (sym is)) ∙ sym (waiting-pop rest x))))

pub sides_less : (rest : List (Bor Expr)) (x left right : Bor Expr) → x.now ≡ e.Binary And left.now right.now → left_over ((rest ++ right ∷ []) ++ left ∷ []) < left_over (rest ++ x ∷ [])
sides_less rest x left right is =
    let a = left_over-pop (rest ++ right ∷ []) left in
    let b = left_over-pop rest right in
    let d = left_over-pop rest x in
    let w : weight x.now ≡ weight left.now + weight right.now + 2 = ap weight is ∙ weight-Binary And left.now right.now in
    omega (arith, a, b, d, w)

pub one_less : (rest : List (Bor Expr)) (x : Bor Expr) → left_over rest < left_over (rest ++ x ∷ [])
one_less rest x = let d = left_over-pop rest x in omega (arith, d)

-- where nothing is found, nothing is added
pub nothing_added : (old : List Comparison) (x : Expr) → conjuncts_in x ≡ [] → old ≡ old ++ conjuncts_in x
nothing_added old x none = sym (ap (λ z. old ++ z) none ∙ append-nil old)

module _ (rest popped : List (Bor Expr)) (x : Bor Expr) (pop : rest ≡ popped ++ x ∷ []) where
  pub one_falls : left_over popped < left_over rest
  one_falls = subst (λ z. left_over popped < left_over z) (sym pop) (one_less popped x)

  module _ (pushed next : List (Bor Expr)) (left right : Bor Expr) (first : pushed ≡ popped ++ right ∷ []) (second : next ≡ pushed ++ left ∷ []) (is : x.now ≡ e.Binary And left.now right.now) where
    next_is : next ≡ (popped ++ right ∷ []) ++ left ∷ []
    next_is = second ∙ ap (λ z. z ++ left ∷ []) first

    pub sides_fall : left_over next < left_over rest
    sides_fall = subst (λ z. left_over z < left_over rest) (sym next_is) (subst (λ z. left_over ((popped ++ right ∷ []) ++ left ∷ []) < left_over z) (sym pop) (sides_less popped x left right is))

    pub sides_step : (found : List Comparison) (whole : Expr) → found ++ waiting rest ≡ conjuncts_in whole → found ++ waiting next ≡ conjuncts_in whole
    sides_step found whole so = ap (λ z. found ++ waiting z) next_is ∙ (ap (λ z. found ++ z) (sides_wait popped x left right is) ∙ (ap (λ z. found ++ waiting z) (sym pop) ∙ so))
