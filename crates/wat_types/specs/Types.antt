-- The types of expressions, and the smallest rule of types that is broken in one.
use Rattle.std.specs.Prelude.{ℕ, Bool, true, false, not, ◌&&◌, ◌||◌, List, [], ◌∷◌, ◌++◌, map, min, Option, Some, None, if◌then◌else◌}
use Rattle.std.specs.List.{list_any, list_all, fold}
use Rattle.wat_value.specs.declared.value.Value.{Value}
use Rattle.wat_value.specs.declared.value.Value.TheVariants as v
use Rattle.wat_value.specs.declared.definition.Kind.{Kind}
use Rattle.wat_value.specs.Fits.{is_textual}
use Rattle.wat_ast.specs.declared.expression.UnaryOp.{UnaryOp}
use Rattle.wat_ast.specs.declared.expression.UnaryOp.TheVariants.{Not, Minus}
use Rattle.wat_ast.specs.declared.expression.BinaryOp.{BinaryOp}
use Rattle.wat_ast.specs.declared.expression.BinaryOp.TheVariants.{Or, And, Equal, Unequal, Less, AtMost, Greater, AtLeast, Add, Subtract, Concat, Multiply, Divide}
use Rattle.wat_ast.specs.declared.expression.AggregateKind.{AggregateKind}
use Rattle.wat_ast.specs.declared.expression.AggregateKind.TheVariants.{Count, Sum, Min, Max}
use Rattle.wat_ast.specs.declared.expression.Expr.{Expr}
use Rattle.wat_ast.specs.declared.expression.Expr.TheOpen.{Expr-F}
use Rattle.wat_ast.specs.declared.expression.Expr.TheFolds.{fold-Expr}
use Rattle.wat_walk.specs.Parts.{parts}
use Rattle.wat_types.specs.declared.typing.ExprType.{ExprType}
use Rattle.wat_types.specs.declared.typing.ExprType.TheVariants.{Integer, Text, Condition, Null}
use Rattle.wat_types.specs.declared.typing.Typing.{Typing}

-- ---- types

-- NULL is an integer and a text, and no condition.
abbrev pub is_integer : ExprType → Bool
is_integer Integer = true
is_integer Null = true
is_integer Text = false
is_integer Condition = false

abbrev pub is_text : ExprType → Bool
is_text Text = true
is_text Null = true
is_text Integer = false
is_text Condition = false

abbrev pub is_condition : ExprType → Bool
is_condition Condition = true
is_condition Integer = false
is_condition Text = false
is_condition Null = false

abbrev pub kind_type : Kind → ExprType
kind_type kind = if is_textual kind then Text else Integer

abbrev pub value_type : Value → ExprType
value_type v.Null = Null
value_type (v.Int n) = Integer
value_type (v.Text t) = Text

-- ---- rules that are broken

-- of two rules that may be broken, the smaller one that is
abbrev pub lesser : Option ℕ → Option ℕ → Option ℕ
lesser None other = other
lesser (Some rule) None = Some rule
lesser (Some rule) (Some other) = Some (min rule other)

-- the smallest broken rule, if one is broken
abbrev pub smallest : List (Option ℕ) → Option ℕ
smallest rules = fold lesser None rules

-- the rule, where it is broken
abbrev pub breaks : ℕ → Bool → Option ℕ
breaks rule broken = if broken then Some rule else None

-- both are integers or both are texts, so that neither is a condition
abbrev pub are_comparable : Typing → Typing → Bool
are_comparable a b = (is_integer a.kind && is_integer b.kind) || (is_text a.kind && is_text b.kind)

-- An operand of + - * / or unary minus is no integer.
abbrev pub arithmetic_rule : Typing → Typing → Option ℕ
arithmetic_rule a b = breaks 1 (not (is_integer a.kind && is_integer b.kind))

-- An operand of || is no text.
abbrev pub concat_rule : Typing → Typing → Option ℕ
concat_rule a b = breaks 2 (not (is_text a.kind && is_text b.kind))

-- Compared operands differ in type, or one is a condition.
abbrev pub comparison_rule : Typing → Typing → Option ℕ
comparison_rule a b = breaks 3 (not (are_comparable a b))

-- An operand of AND, OR or NOT is no condition.
abbrev pub logic_rule : Typing → Typing → Option ℕ
logic_rule a b = breaks 4 (not (is_condition a.kind && is_condition b.kind))

unfoldable pub operator_rule : BinaryOp → Typing → Typing → Option ℕ
operator_rule Or = logic_rule
operator_rule And = logic_rule
operator_rule Equal = comparison_rule
operator_rule Unequal = comparison_rule
operator_rule Less = comparison_rule
operator_rule AtMost = comparison_rule
operator_rule Greater = comparison_rule
operator_rule AtLeast = comparison_rule
operator_rule Add = arithmetic_rule
operator_rule Subtract = arithmetic_rule
operator_rule Concat = concat_rule
operator_rule Multiply = arithmetic_rule
operator_rule Divide = arithmetic_rule

abbrev pub is_sum : AggregateKind → Bool
is_sum Sum = true
is_sum Count = false
is_sum Min = false
is_sum Max = false

-- An aggregate stands within another, SUM's argument is no integer, or an aggregate's argument is a condition.
abbrev pub aggregate_rule : AggregateKind → Typing → Option ℕ
aggregate_rule kind a = breaks 6 (a.aggregated || is_condition a.kind || (is_sum kind && not (is_integer a.kind)))

abbrev pub unary_rule : UnaryOp → Typing → Option ℕ
unary_rule Minus a = breaks 1 (not (is_integer a.kind))
unary_rule Not a = breaks 4 (not (is_condition a.kind))

-- the rule that an expression breaks by its own operands
abbrev pub own_rule : Expr-F Typing → Option ℕ
own_rule (Expr-F.Unary op a) = unary_rule op a
own_rule (Expr-F.Binary op a b) = operator_rule op a b
own_rule (Expr-F.IsNull a negated) = breaks 5 (is_condition a.kind)
own_rule (Expr-F.Between a low high negated) = breaks 3 (not (are_comparable a low && are_comparable a high))
own_rule (Expr-F.InList a items negated) = breaks 3 (not (list_all (are_comparable a) items))
own_rule (Expr-F.Aggregate kind (Some a)) = aggregate_rule kind a
own_rule e = None

-- ---- expressions

unfoldable pub operator_type : BinaryOp → ExprType
operator_type Or = Condition
operator_type And = Condition
operator_type Equal = Condition
operator_type Unequal = Condition
operator_type Less = Condition
operator_type AtMost = Condition
operator_type Greater = Condition
operator_type AtLeast = Condition
operator_type Add = Integer
operator_type Subtract = Integer
operator_type Concat = Text
operator_type Multiply = Integer
operator_type Divide = Integer

abbrev pub unary_type : UnaryOp → ExprType
unary_type Not = Condition
unary_type Minus = Integer

-- MIN and MAX have their argument's type, COUNT and SUM are integers.
abbrev pub aggregate_type : AggregateKind → Typing → ExprType
aggregate_type Count a = Integer
aggregate_type Sum a = Integer
aggregate_type Min a = a.kind
aggregate_type Max a = a.kind

-- the type of the column with this number of the source with this number
abbrev pub ColumnTypes : Type 0
ColumnTypes = ℕ → ℕ → ExprType

abbrev pub type_step : ColumnTypes → Expr-F Typing → ExprType
type_step columns (Expr-F.Literal value) = value_type value
type_step columns (Expr-F.Named table name) = Null
type_step columns (Expr-F.Placed source column) = columns source column
type_step columns (Expr-F.Unary op a) = unary_type op
type_step columns (Expr-F.Binary op a b) = operator_type op
type_step columns (Expr-F.IsNull a negated) = Condition
type_step columns (Expr-F.Between a low high negated) = Condition
type_step columns (Expr-F.InList a items negated) = Condition
type_step columns (Expr-F.Aggregate kind None) = Integer
type_step columns (Expr-F.Aggregate kind (Some a)) = aggregate_type kind a

abbrev pub any_aggregated : List Typing → Bool
any_aggregated typings = list_any (λ typing. typing.aggregated) typings

abbrev pub has_aggregate : Expr-F Typing → Bool
has_aggregate (Expr-F.Aggregate kind arg) = true
has_aggregate e = any_aggregated (parts e)

-- the smallest rule that is broken in the parts, or by the expression itself
abbrev pub broken_step : Expr-F Typing → Option ℕ
broken_step e = smallest (map (λ part. part.broken) (parts e) ++ own_rule e ∷ [])

-- what is known of an expression of this type from what is known of its parts
abbrev pub typing_from : ExprType → Expr-F Typing → Typing
typing_from type e = record { kind = type; aggregated = has_aggregate e; broken = broken_step e }

abbrev pub typing_step : ColumnTypes → Expr-F Typing → Typing
typing_step columns e = typing_from (type_step columns e) e

-- the type of an expression, whether an aggregate stands in it, and the smallest rule that is broken in it
unfoldable pub typing_of : ColumnTypes → Expr → Typing
typing_of columns = fold-Expr Typing (typing_step columns)
