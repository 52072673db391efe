-- What an aggregate gives of the outcomes of its argument.
use Rattle.std.specs.Prelude.{ℤ, pos, ◌+ℤ◌, List, [], ◌∷◌, length, Option, Some, None, unwrap_or, if◌then◌else◌}
use Rattle.std.specs.List.{list_any, filter_map, fold, reduce}
use Rattle.std.specs.Ordering.{ord_min, ord_max}
use Rattle.wat_value.specs.declared.value.Value.{Value}
use Rattle.wat_value.specs.declared.value.Value.TheVariants.{Null, Int, Text}
use Rattle.wat_value.specs.Order.{value_cmp}
use Rattle.wat_ast.specs.declared.expression.AggregateKind.{AggregateKind}
use Rattle.wat_ast.specs.declared.expression.AggregateKind.TheVariants.{Count, Sum, Min, Max}
use Rattle.wat_expr.specs.declared.outcome.Outcome.{Outcome}
use Rattle.wat_expr.specs.declared.outcome.Outcome.TheVariants.{Is, Error}
use Rattle.wat_expr.specs.Logic.{is_error}
use Rattle.wat_expr.specs.Operators.{if_fits, or_error}

-- the value, where there is one that isn't Null
abbrev pub known_value : Outcome → Option Value
known_value (Is (Int n)) = Some (Int n)
known_value (Is (Text t)) = Some (Text t)
known_value o = None

abbrev pub number : Value → ℤ
number (Int n) = n
number v = pos 0

abbrev pub count : {A : Type 0} → List A → Outcome
count xs = Is (Int (pos (length xs)))

-- the exact sum, and Error past 64 bits
abbrev pub sum : List Value → Outcome
sum [] = Is Null
sum (v ∷ vs) = or_error (if_fits (fold (λ total w. total +ℤ number w) (pos 0) (v ∷ vs)))

-- an aggregate of the values that aren't Null
abbrev pub summary : AggregateKind → List Value → Outcome
summary Count vs = count vs
summary Sum vs = sum vs
summary Min vs = Is (unwrap_or (reduce (ord_min value_cmp) vs) Null)
summary Max vs = Is (unwrap_or (reduce (ord_max value_cmp) vs) Null)

-- an aggregate of the outcomes of its argument, which is Error where one of them is
abbrev pub aggregate : AggregateKind → List Outcome → Outcome
aggregate kind outcomes = if list_any is_error outcomes then Error else summary kind (filter_map known_value outcomes)
