-- The interval of tests on the columns of an index.
use Rattle.std.specs.Prelude.{ℕ, Bool, true, false, ◌&&◌, ◌||◌, List, [], ◌∷◌, length, take, map, nat_le, min, Option, Some, None, if◌then◌else◌}
use Rattle.std.specs.List.{filter_map, reduce}
use Rattle.std.specs.Option.{option_map}
use Rattle.std.specs.declared.cmp.Ordering.{Ordering}
use Rattle.std.specs.declared.cmp.Ordering.TheVariants as o
use Rattle.std.specs.Ordering.{is_gt, is_eq}
use Rattle.wat_value.specs.declared.value.Value.{Value}
use Rattle.wat_value.specs.declared.bound.Bound.{Bound}
use Rattle.wat_value.specs.declared.bound.Bound.TheVariants.{Free, Including, Excluding}
use Rattle.wat_value.specs.declared.bound.Interval.{Interval}
use Rattle.wat_value.specs.Order.{value_cmp, key_cmp}
use Rattle.wat_ast.specs.declared.expression.BinaryOp.{BinaryOp}
use Rattle.wat_ast.specs.declared.expression.BinaryOp.TheVariants.{Equal, Less, AtMost, Greater, AtLeast}
use Rattle.wat_interval.specs.declared.test.Test.{Test}
use Rattle.wat_interval.specs.Tests.{taken}

-- ---- bounds of one column

-- an end of a range of values, which it holds or not
pub record Edge : Type 0 where
  pub value : Value
  pub included : Bool

-- whether the operator bounds a column from below, and then whether the value is included; and the same from above
abbrev pub from_below : BinaryOp → Option Bool
from_below Equal = Some true
from_below AtLeast = Some true
from_below Greater = Some false
from_below op = None

abbrev pub from_above : BinaryOp → Option Bool
from_above Equal = Some true
from_above AtMost = Some true
from_above Less = Some false
from_above op = None

abbrev pub lower_edge : Test → Option Edge
lower_edge t = option_map (λ included. record { value = t.value; included = included }) (from_below t.op)

abbrev pub upper_edge : Test → Option Edge
upper_edge t = option_map (λ included. record { value = t.value; included = included }) (from_above t.op)

-- The edge with the value that is chosen. At equal value an exclusive edge is the tighter one.
abbrev pub tighter : Ordering → Edge → Edge → Edge
tighter o.Less a b = b
tighter o.Greater a b = a
tighter o.Equal a b = record { value = a.value; included = a.included && b.included }

-- the greatest of lower edges, and the least of upper ones
abbrev pub greater_edge : Edge → Edge → Edge
greater_edge a b = tighter (value_cmp a.value b.value) a b

abbrev pub lesser_edge : Edge → Edge → Edge
lesser_edge a b = tighter (value_cmp b.value a.value) a b

abbrev pub lower_of : List Test → Option Edge
lower_of tests = reduce greater_edge (filter_map lower_edge tests)

abbrev pub upper_of : List Test → Option Edge
upper_of tests = reduce lesser_edge (filter_map upper_edge tests)

-- ---- bounds of keys

-- The values of a bound, and whether it is exclusive: it ends with its first exclusive value, or before the first column without one.
abbrev pub with_edge : Bool → Value → List Value × Bool → List Value × Bool
with_edge true v more = (v ∷ more.0, more.1)
with_edge false v more = (v ∷ [], true)

abbrev pub edges_of : List (Option Edge) → List Value × Bool
edges_of [] = ([], false)
edges_of (None ∷ more) = ([], false)
edges_of (Some e ∷ more) = with_edge e.included e.value (edges_of more)

abbrev pub bound_with : List Value → Bool → Bound
bound_with [] excluding = Free
bound_with (v ∷ vs) excluding = if excluding then Excluding (v ∷ vs) else Including (v ∷ vs)

abbrev pub bound_of : List (Option Edge) → Bound
bound_of edges = bound_with (edges_of edges).0 (edges_of edges).1

-- the interval of the tests that are taken
unfoldable pub interval_of : List (List Test) → Interval
interval_of tests = record { lower = bound_of (map lower_of (taken tests)); upper = bound_of (map upper_of (taken tests)) }

-- ---- empty intervals

abbrev pub bound_values : Bound → List Value
bound_values Free = []
bound_values (Including key) = key
bound_values (Excluding key) = key

abbrev pub is_excluding : Bound → Bool
is_excluding Free = false
is_excluding (Including key) = false
is_excluding (Excluding key) = true

-- a bound that names no more than n columns excludes
abbrev pub excludes_within : ℕ → Bound → Bool
excludes_within n bound = nat_le (length (bound_values bound)) n && is_excluding bound

-- On the columns that both bounds name the lower is greater than the upper, or they are equal there and a bound that names no further column excludes.
abbrev pub is_crossed : ℕ → Interval → Bool
is_crossed n i =
    is_gt (key_cmp (take n (bound_values i.lower)) (take n (bound_values i.upper)))
    || (is_eq (key_cmp (take n (bound_values i.lower)) (take n (bound_values i.upper))) && (excludes_within n i.lower || excludes_within n i.upper))

abbrev pub is_empty : Interval → Bool
is_empty i = is_crossed (min (length (bound_values i.lower)) (length (bound_values i.upper))) i
