-- What the operators give.
use Rattle.std.specs.Prelude.{ℤ, pos, negsuc, ◌+ℤ◌, ◌-ℤ◌, ◌*ℤ◌, neg_ℤ, nat_lt, ◌^◌, int_div, Bool, false, ◌||◌, if◌then◌else◌, List, ◌++◌, Option, Some, None}
use Rattle.std.specs.List.{fold}
use Rattle.std.specs.declared.cmp.Ordering.{Ordering}
use Rattle.std.specs.Ordering.{is_eq, is_ne, is_lt, is_le, is_gt, is_ge, int_eq}
use Rattle.wat_value.specs.declared.value.Value.{Value}
use Rattle.wat_value.specs.declared.value.Value.TheVariants.{Null, Int, Text}
use Rattle.wat_value.specs.Order.{value_cmp}
use Rattle.wat_value.specs.Fits.{is_null}
use Rattle.wat_ast.specs.declared.expression.UnaryOp.{UnaryOp}
use Rattle.wat_ast.specs.declared.expression.UnaryOp.TheVariants.{Not, Minus}
use Rattle.wat_ast.specs.declared.expression.BinaryOp.{BinaryOp}
use Rattle.wat_ast.specs.declared.expression.BinaryOp.TheVariants.{Or, And, Equal, Unequal, Less, AtMost, Greater, AtLeast, Add, Subtract, Concat, Multiply, Divide}
use Rattle.wat_expr.specs.declared.outcome.Outcome.{Outcome}
use Rattle.wat_expr.specs.declared.outcome.Outcome.TheVariants.{Is, False, Unknown, Error}
use Rattle.wat_expr.specs.Logic.{truth, conjunction, disjunction, negation}

-- Error with anything gives Error, and Null with any other value gives `null`
abbrev pub strictly : Outcome → (Value → Value → Outcome) → Outcome → Outcome → Outcome
strictly null f (Is v) (Is w) = if is_null v || is_null w then null else f v w
strictly null f a b = Error

-- 64 bits hold the integer
abbrev pub fits_64_bits : ℤ → Bool
fits_64_bits (pos n) = nat_lt n (2 ^ 63)
fits_64_bits (negsuc n) = nat_lt n (2 ^ 63)

abbrev pub if_fits : ℤ → Option ℤ
if_fits n = if fits_64_bits n then Some n else None

abbrev pub or_error : Option ℤ → Outcome
or_error (Some n) = Is (Int n)
or_error None = Error

-- the exact result, where there is one and 64 bits hold it; division truncates toward zero
abbrev pub exact : BinaryOp → ℤ → ℤ → Option ℤ
exact Add m n = if_fits (m +ℤ n)
exact Subtract m n = if_fits (m -ℤ n)
exact Multiply m n = if_fits (m *ℤ n)
exact Divide m n = if int_eq n (pos 0) then None else if_fits (int_div m n)
exact op m n = None

-- an operation on integers
abbrev pub computation : BinaryOp → Value → Value → Outcome
computation op (Int m) (Int n) = or_error (exact op m n)
computation op v w = Error

abbrev pub arithmetic : BinaryOp → Outcome → Outcome → Outcome
arithmetic op = strictly (Is Null) (computation op)

-- the one text behind the other
abbrev pub joined_values : Value → Value → Outcome
joined_values (Text s) (Text t) = Is (Text (s ++ t))
joined_values v w = Error

abbrev pub concatenation : Outcome → Outcome → Outcome
concatenation = strictly (Is Null) joined_values

-- what a comparison asks of the order of its operands
abbrev pub test : BinaryOp → Ordering → Bool
test Equal = is_eq
test Unequal = is_ne
test Less = is_lt
test AtMost = is_le
test Greater = is_gt
test AtLeast = is_ge
test op = λ order. false

-- The order of two values in a comparison. It is that of ORDER BY, MIN and MAX as long as no two values that are written otherwise are equal.
abbrev pub compared_order : Value → Value → Ordering
compared_order = value_cmp

-- a comparison, which is Unknown where an operand is Null
abbrev pub comparison : BinaryOp → Outcome → Outcome → Outcome
comparison op = strictly Unknown (λ v w. truth (test op (compared_order v w)))

unfoldable pub binary : BinaryOp → Outcome → Outcome → Outcome
binary And = conjunction
binary Or = disjunction
binary Equal = comparison Equal
binary Unequal = comparison Unequal
binary Less = comparison Less
binary AtMost = comparison AtMost
binary Greater = comparison Greater
binary AtLeast = comparison AtLeast
binary Concat = concatenation
binary op = arithmetic op

abbrev pub minus : Outcome → Outcome
minus (Is Null) = Is Null
minus (Is (Int n)) = or_error (if_fits (neg_ℤ n))
minus o = Error

abbrev pub unary : UnaryOp → Outcome → Outcome
unary Not = negation
unary Minus = minus

-- `a BETWEEN b AND c` is `a >= b AND a <= c`
abbrev pub between : Outcome → Outcome → Outcome → Outcome
between a low high = conjunction (comparison AtLeast a low) (comparison AtMost a high)

-- `a IN (b, c)` is `a = b OR a = c`
abbrev pub among : Outcome → List Outcome → Outcome
among a items = fold (λ found x. disjunction found (comparison Equal a x)) False items
