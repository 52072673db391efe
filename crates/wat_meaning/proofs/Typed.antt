-- The value of an expression is of its type.
use Rattle.std.proofs.Common.{◌≡◌, ℕ, ℤ, pos, Bool, true, false, cond, if◌then◌else◌, List, [], ◌∷◌, map, Option, Some, None, unwrap_or, refl, sym, ap, subst, ◌∙◌}
use Rattle.std.specs.Prelude.{◌+ℤ◌, neg_ℤ}
use Rattle.std.specs.Ordering.{ord_min, ord_max, is_lt}
use Rattle.std.specs.List.{list_any, list_all, filter_map, fold, reduce}
use Rattle.std.proofs.lemmas.Bool.{and_parts, and_from}
use Rattle.wat_value.specs.declared.value.Value.{Value}
use Rattle.wat_value.specs.declared.value.Value.TheVariants as v
use Rattle.wat_value.specs.declared.definition.Kind.{Kind}
use Rattle.wat_value.specs.declared.definition.Kind.TheVariants as k
use Rattle.wat_value.specs.Order.{value_cmp}
use Rattle.wat_value.specs.Fits.{has_type}
use Rattle.wat_ast.specs.declared.expression.UnaryOp.{UnaryOp}
use Rattle.wat_ast.specs.declared.expression.UnaryOp.TheVariants.{Not, Minus}
use Rattle.wat_ast.specs.declared.expression.BinaryOp.{BinaryOp}
use Rattle.wat_ast.specs.declared.expression.BinaryOp.TheVariants.{Or, And, Equal, Unequal, Less, AtMost, Greater, AtLeast, Add, Subtract, Concat, Multiply, Divide}
use Rattle.wat_ast.specs.declared.expression.AggregateKind.{AggregateKind}
use Rattle.wat_ast.specs.declared.expression.AggregateKind.TheVariants.{Count, Sum, Min, Max}
use Rattle.wat_ast.specs.declared.expression.Expr.{Expr, ind-Expr, map-Expr, roll-Expr}
use Rattle.wat_ast.specs.declared.expression.Expr.TheVariants as e
use Rattle.wat_ast.specs.declared.expression.Expr.TheOpen.{Expr-F}
use Rattle.wat_expr.specs.declared.outcome.Outcome.{Outcome}
use Rattle.wat_expr.specs.declared.outcome.Outcome.TheVariants as o
use Rattle.wat_expr.specs.Logic.{is_error}
use Rattle.wat_expr.specs.Operators.{if_fits, or_error, exact, arithmetic, concatenation, binary, minus, unary}
use Rattle.wat_expr.specs.Aggregates.{known_value, number, sum, summary, aggregate}
use Rattle.wat_expr.specs.Evaluation.{Combination, Over, over, value_at, aggregate_over, outcome_of}
use Rattle.wat_expr.proofs.EvaluationLemmas.{outcome-Literal, outcome-Named, outcome-Placed, outcome-Unary, outcome-Binary, outcome-Count, outcome-Some}
use Rattle.wat_types.specs.declared.typing.ExprType.{ExprType}
use Rattle.wat_types.specs.declared.typing.ExprType.TheVariants as t
use Rattle.wat_types.specs.declared.typing.Typing.{Typing}
use Rattle.wat_types.specs.Types.{ColumnTypes, typing_of, value_type, unary_type, operator_type, aggregate_type, kind_type}
use Rattle.wat_typing.specs.Rules.{goes_into}
use Rattle.wat_types.proofs.TypeLemmas.{typing-Literal, typing-Named, typing-Placed, typing-Unary, typing-Binary, typing-IsNull, typing-Between, typing-InList, typing-Count, typing-Aggregate}
use Rattle.wat_group.specs.Query.{value_of}

abbrev takes_int : ExprType → Bool
takes_int t.Integer = true
takes_int t.Condition = true
takes_int t.Text = false
takes_int t.Null = false

abbrev takes_text : ExprType → Bool
takes_text t.Text = true
takes_text t.Condition = true
takes_text t.Integer = false
takes_text t.Null = false

-- the value is one of the type; of conditions nothing is said
abbrev pub is_of : ExprType → Value → Bool
is_of type v.Null = true
is_of type (v.Int n) = takes_int type
is_of type (v.Text t) = takes_text type

-- a value of a type that goes into a column has the column's type
pub goes : (kind : Kind) (type : ExprType) (value : Value) → goes_into type (kind_type kind) ≡ true → is_of type value ≡ true → has_type kind value ≡ true
goes kind type v.Null into is = refl
goes k.Integer t.Integer (v.Int n) into is = refl
goes k.Integer t.Condition (v.Int n) into is = refl
goes k.Integer t.Text (v.Int n) into is = refl
goes k.Integer t.Null (v.Int n) into is = refl
goes k.Integer t.Text (v.Text t) into is = cc
goes k.Integer t.Condition (v.Text t) into is = cc
goes k.Integer t.Integer (v.Text t) into is = cc
goes k.Integer t.Null (v.Text t) into is = cc
goes (k.Char n) type (v.Text t) into is = refl
goes (k.Char n) t.Integer (v.Int m) into is = cc
goes (k.Char n) t.Condition (v.Int m) into is = cc
goes (k.Char n) t.Text (v.Int m) into is = cc
goes (k.Char n) t.Null (v.Int m) into is = cc
goes (k.Varchar n) type (v.Text t) into is = refl
goes (k.Varchar n) t.Integer (v.Int m) into is = cc
goes (k.Varchar n) t.Condition (v.Int m) into is = cc
goes (k.Varchar n) t.Text (v.Int m) into is = cc
goes (k.Varchar n) t.Null (v.Int m) into is = cc

abbrev IsOf : ExprType → Outcome → Type 0
IsOf type outcome = is_of type (value_of outcome) ≡ true

-- ---- what operators give

condition : (v : Value) → is_of t.Condition v ≡ true
condition v.Null = refl
condition (v.Int n) = refl
condition (v.Text t) = refl

literal : (value : Value) → is_of (value_type value) value ≡ true
literal v.Null = refl
literal (v.Int n) = refl
literal (v.Text t) = refl

int_or_error : (n : Option ℤ) → IsOf t.Integer (or_error n)
int_or_error None = refl
int_or_error (Some n) = refl

minus_is : (a : Outcome) → IsOf t.Integer (minus a)
minus_is (o.Is v.Null) = refl
minus_is (o.Is (v.Int n)) = int_or_error (if_fits (neg_ℤ n))
minus_is (o.Is (v.Text t)) = refl
minus_is o.True = refl
minus_is o.False = refl
minus_is o.Unknown = refl
minus_is o.Error = refl

unary_is : (op : UnaryOp) (a : Outcome) → IsOf (unary_type op) (unary op a)
unary_is Not a = condition (value_of (unary Not a))
unary_is Minus a = minus_is a

arithmetic_is : (op : BinaryOp) (a b : Outcome) → IsOf t.Integer (arithmetic op a b)
arithmetic_is op (o.Is v.Null) (o.Is w) = refl
arithmetic_is op (o.Is (v.Int m)) (o.Is v.Null) = refl
arithmetic_is op (o.Is (v.Int m)) (o.Is (v.Int n)) = int_or_error (exact op m n)
arithmetic_is op (o.Is (v.Int m)) (o.Is (v.Text t)) = refl
arithmetic_is op (o.Is (v.Text s)) (o.Is v.Null) = refl
arithmetic_is op (o.Is (v.Text s)) (o.Is (v.Int n)) = refl
arithmetic_is op (o.Is (v.Text s)) (o.Is (v.Text t)) = refl
arithmetic_is op (o.Is w) o.True = refl
arithmetic_is op (o.Is w) o.False = refl
arithmetic_is op (o.Is w) o.Unknown = refl
arithmetic_is op (o.Is w) o.Error = refl
arithmetic_is op o.True b = refl
arithmetic_is op o.False b = refl
arithmetic_is op o.Unknown b = refl
arithmetic_is op o.Error b = refl

concatenation_is : (a b : Outcome) → IsOf t.Text (concatenation a b)
concatenation_is (o.Is v.Null) (o.Is w) = refl
concatenation_is (o.Is (v.Int m)) (o.Is v.Null) = refl
concatenation_is (o.Is (v.Int m)) (o.Is (v.Int n)) = refl
concatenation_is (o.Is (v.Int m)) (o.Is (v.Text t)) = refl
concatenation_is (o.Is (v.Text s)) (o.Is v.Null) = refl
concatenation_is (o.Is (v.Text s)) (o.Is (v.Int n)) = refl
concatenation_is (o.Is (v.Text s)) (o.Is (v.Text t)) = refl
concatenation_is (o.Is w) o.True = refl
concatenation_is (o.Is w) o.False = refl
concatenation_is (o.Is w) o.Unknown = refl
concatenation_is (o.Is w) o.Error = refl
concatenation_is o.True b = refl
concatenation_is o.False b = refl
concatenation_is o.Unknown b = refl
concatenation_is o.Error b = refl

binary_is : (op : BinaryOp) (a b : Outcome) → IsOf (operator_type op) (binary op a b)
unfolding binary operator_type
binary_is Or a b = condition (value_of (binary Or a b))
binary_is And a b = condition (value_of (binary And a b))
binary_is Equal a b = condition (value_of (binary Equal a b))
binary_is Unequal a b = condition (value_of (binary Unequal a b))
binary_is Less a b = condition (value_of (binary Less a b))
binary_is AtMost a b = condition (value_of (binary AtMost a b))
binary_is Greater a b = condition (value_of (binary Greater a b))
binary_is AtLeast a b = condition (value_of (binary AtLeast a b))
binary_is Add a b = arithmetic_is Add a b
binary_is Subtract a b = arithmetic_is Subtract a b
binary_is Concat a b = concatenation_is a b
binary_is Multiply a b = arithmetic_is Multiply a b
binary_is Divide a b = arithmetic_is Divide a b

-- ---- aggregates

-- the outcomes have values of the type
abbrev AllOf : ExprType → List Outcome → Type 0
AllOf type [] = Unit {0}
AllOf type (x ∷ xs) = IsOf type x × AllOf type xs

known_all : (type : ExprType) (xs : List Outcome) → AllOf type xs → list_all (is_of type) (filter_map known_value xs) ≡ true
known_all type [] all = refl
known_all type (o.Is v.Null ∷ xs) all = known_all type xs all.1
known_all type (o.Is (v.Int n) ∷ xs) all = and_from (is_of type (v.Int n)) (list_all (is_of type) (filter_map known_value xs)) all.0 (known_all type xs all.1)
known_all type (o.Is (v.Text t) ∷ xs) all = and_from (is_of type (v.Text t)) (list_all (is_of type) (filter_map known_value xs)) all.0 (known_all type xs all.1)
known_all type (o.True ∷ xs) all = known_all type xs all.1
known_all type (o.False ∷ xs) all = known_all type xs all.1
known_all type (o.Unknown ∷ xs) all = known_all type xs all.1
known_all type (o.Error ∷ xs) all = known_all type xs all.1

-- of two values of a type, the one that is chosen is of the type
folded : (type : ExprType) (f : Value → Value → Value) → ((a b : Value) → is_of type a ≡ true → is_of type b ≡ true → is_of type (f a b) ≡ true)
    → (a : Value) (vs : List Value) → is_of type a ≡ true → list_all (is_of type) vs ≡ true → is_of type (fold f a vs) ≡ true
folded type f one a [] h all = h
folded type f one a (w ∷ ws) h all =
    let parts = and_parts (is_of type w) (list_all (is_of type) ws) all in
    folded type f one (f a w) ws (one a w h parts.0) parts.1

reduced : (type : ExprType) (f : Value → Value → Value) → ((a b : Value) → is_of type a ≡ true → is_of type b ≡ true → is_of type (f a b) ≡ true)
    → (vs : List Value) → list_all (is_of type) vs ≡ true → is_of type (unwrap_or (reduce f vs) v.Null) ≡ true
reduced type f one [] all = refl
reduced type f one (w ∷ ws) all = let parts = and_parts (is_of type w) (list_all (is_of type) ws) all in folded type f one w ws parts.0 parts.1

lesser_is : (type : ExprType) (a b : Value) → is_of type a ≡ true → is_of type b ≡ true → is_of type (ord_min value_cmp a b) ≡ true
lesser_is type a b p q = either (is_lt (value_cmp b a))
  where
    either : (c : Bool) → is_of type (cond c b a) ≡ true
    either true = q
    either false = p

greater_is : (type : ExprType) (a b : Value) → is_of type a ≡ true → is_of type b ≡ true → is_of type (ord_max value_cmp a b) ≡ true
greater_is type a b p q = either (is_lt (value_cmp b a))
  where
    either : (c : Bool) → is_of type (cond c a b) ≡ true
    either true = p
    either false = q

sum_is : (vs : List Value) → IsOf t.Integer (sum vs)
sum_is [] = refl
sum_is (w ∷ ws) = int_or_error (if_fits (fold (λ total w. total +ℤ number w) (pos 0) (w ∷ ws)))

summary_is : (kind : AggregateKind) (a : Typing) (vs : List Value) → list_all (is_of a.kind) vs ≡ true → IsOf (aggregate_type kind a) (summary kind vs)
summary_is Count a vs all = refl
summary_is Sum a vs all = sum_is vs
summary_is Min a vs all = reduced a.kind (ord_min value_cmp) (lesser_is a.kind) vs all
summary_is Max a vs all = reduced a.kind (ord_max value_cmp) (greater_is a.kind) vs all

aggregate_is : (kind : AggregateKind) (a : Typing) (xs : List Outcome) → AllOf a.kind xs → IsOf (aggregate_type kind a) (aggregate kind xs)
aggregate_is kind a xs all = either (list_any is_error xs)
  where
    either : (failed : Bool) → IsOf (aggregate_type kind a) (if failed then o.Error else summary kind (filter_map known_value xs))
    either true = refl
    either false = summary_is kind a (filter_map known_value xs) (known_all a.kind xs all)

-- ---- every expression

-- the values in the columns of a combination are of their types
abbrev pub AreOf : ColumnTypes → Combination → Type 0
AreOf columns rows = (source column : ℕ) → is_of (columns source column) (value_at rows source column) ≡ true

abbrev pub AllAreOf : ColumnTypes → List Combination → Type 0
AllAreOf columns [] = Unit {0}
AllAreOf columns (rows ∷ more) = AreOf columns rows × AllAreOf columns more

abbrev pub GroupIsOf : ColumnTypes → Option (List Combination) → Type 0
GroupIsOf columns None = Unit {0}
GroupIsOf columns (Some group) = AllAreOf columns group

module _ (columns : ColumnTypes) where
  abbrev Sound : Expr → Type 0
  Sound x = (at : Over) → AreOf columns at.rows → GroupIsOf columns at.group → IsOf (typing_of columns x).kind (outcome_of x at)

  all_sound : (x : Expr) → Sound x → (group : List Combination) → AllAreOf columns group → AllOf (typing_of columns x).kind (map (λ rows. outcome_of x (over rows)) group)
  all_sound x sound [] all = tt
  all_sound x sound (rows ∷ more) all = (sound (over rows) all.0 tt, all_sound x sound more all.1)

  counted : (kind : AggregateKind) (group : Option (List Combination)) → IsOf t.Integer (aggregate_over kind None group)
  counted kind None = refl
  counted kind (Some group) = refl

  taken : (kind : AggregateKind) (x : Expr) → Sound x → (group : Option (List Combination)) → GroupIsOf columns group → IsOf (aggregate_type kind (typing_of columns x)) (aggregate_over kind (Some (outcome_of x)) group)
  taken kind x sound None all = refl
  taken kind x sound (Some group) all = aggregate_is kind (typing_of columns x) (map (λ rows. outcome_of x (over rows)) group) (all_sound x sound group all)

  -- from what is known of the two at an expression
  both : (type : ExprType) (typing : Typing) (x y : Outcome) → typing.kind ≡ type → x ≡ y → IsOf type y → IsOf typing.kind x
  both type typing x y p q is = ap (λ (k : ExprType). is_of k (value_of x)) p ∙ ap (λ (z : Outcome). is_of type (value_of z)) q ∙ is

  step : {S : Type 0} (ex : S → Expr) (pr : (y : S) → Sound (ex y)) (y : Expr-F S) → Sound (roll-Expr (map-Expr S Expr ex y))
  step ex pr (Expr-F.Literal w) = subst Sound (sym (e.rolls-Literal w))
      (λ at rows group. both (value_type w) (typing_of columns (e.Literal w)) (outcome_of (e.Literal w) at) (o.Is w) (ap (λ (z : Typing). z.kind) (typing-Literal columns w)) (outcome-Literal w at) (literal w))
  step ex pr (Expr-F.Named table n) = subst Sound (sym (e.rolls-Named table n))
      (λ at rows group. both t.Null (typing_of columns (e.Named table n)) (outcome_of (e.Named table n) at) o.Error (ap (λ (z : Typing). z.kind) (typing-Named columns table n)) (outcome-Named table n at) refl)
  step ex pr (Expr-F.Placed source column) = subst Sound (sym (e.rolls-Placed source column))
      (λ at rows group. both (columns source column) (typing_of columns (e.Placed source column)) (outcome_of (e.Placed source column) at) (o.Is (value_at at.rows source column))
      (ap (λ (z : Typing). z.kind) (typing-Placed columns source column)) (outcome-Placed source column at) (rows source column))
  step ex pr (Expr-F.Unary op a) = subst Sound (sym (e.rolls-Unary op (ex a)))
      (λ at rows group. both (unary_type op) (typing_of columns (e.Unary op (ex a))) (outcome_of (e.Unary op (ex a)) at) (unary op (outcome_of (ex a) at))
      (ap (λ (z : Typing). z.kind) (typing-Unary columns op (ex a))) (outcome-Unary op (ex a) at) (unary_is op (outcome_of (ex a) at)))
  step ex pr (Expr-F.Binary op a b) = subst Sound (sym (e.rolls-Binary op (ex a) (ex b)))
      (λ at rows group. both (operator_type op) (typing_of columns (e.Binary op (ex a) (ex b))) (outcome_of (e.Binary op (ex a) (ex b)) at) (binary op (outcome_of (ex a) at) (outcome_of (ex b) at))
      (ap (λ (z : Typing). z.kind) (typing-Binary columns op (ex a) (ex b))) (outcome-Binary op (ex a) (ex b) at) (binary_is op (outcome_of (ex a) at) (outcome_of (ex b) at)))
  step ex pr (Expr-F.IsNull a n) = subst Sound (sym (e.rolls-IsNull (ex a) n))
      (λ at rows group. ap (λ (z : Typing). is_of z.kind (value_of (outcome_of (e.IsNull (ex a) n) at))) (typing-IsNull columns (ex a) n) ∙ condition (value_of (outcome_of (e.IsNull (ex a) n) at)))
  step ex pr (Expr-F.Between a l h n) = subst Sound (sym (e.rolls-Between (ex a) (ex l) (ex h) n))
      (λ at rows group. ap (λ (z : Typing). is_of z.kind (value_of (outcome_of (e.Between (ex a) (ex l) (ex h) n) at))) (typing-Between columns (ex a) (ex l) (ex h) n)
      ∙ condition (value_of (outcome_of (e.Between (ex a) (ex l) (ex h) n) at)))
  step ex pr (Expr-F.InList a xs n) = subst Sound (sym (e.rolls-InList (ex a) (map ex xs) n))
      (λ at rows group. ap (λ (z : Typing). is_of z.kind (value_of (outcome_of (e.InList (ex a) (map ex xs) n) at))) (typing-InList columns (ex a) (map ex xs) n)
      ∙ condition (value_of (outcome_of (e.InList (ex a) (map ex xs) n) at)))
  step ex pr (Expr-F.Aggregate kind None) = subst Sound (sym (e.rolls-Aggregate kind None))
      (λ at rows group. both t.Integer (typing_of columns (e.Aggregate kind None)) (outcome_of (e.Aggregate kind None) at) (aggregate_over kind None at.group)
      (ap (λ (z : Typing). z.kind) (typing-Count columns kind)) (outcome-Count kind at) (counted kind at.group))
  step ex pr (Expr-F.Aggregate kind (Some a)) = subst Sound (sym (e.rolls-Aggregate kind (Some (ex a))))
      (λ at rows group. both (aggregate_type kind (typing_of columns (ex a))) (typing_of columns (e.Aggregate kind (Some (ex a)))) (outcome_of (e.Aggregate kind (Some (ex a))) at) (aggregate_over kind (Some (outcome_of (ex a))) at.group)
      (ap (λ (z : Typing). z.kind) (typing-Aggregate columns kind (ex a))) (outcome-Some kind (ex a) at) (taken kind (ex a) (pr a) at.group group))

  -- an expression's value is of its type, over a combination and a group whose values are of theirs
  pub sound : (x : Expr) → Sound x
  sound = ind-Expr Sound (λ x y q. subst (λ (z : Expr-F Expr). Sound (roll-Expr z)) q (step (λ z. z.0) (λ z. z.1) y))
