-- The two ends of an interval as one. Only private functions cite this.
use Rattle.std.specs.Prelude.{Bool, List, Option, Some, None, map}
use Rattle.std.specs.List.{filter_map, reduce}
use Rattle.std.specs.Option.{option_map}
use Rattle.wat_value.specs.declared.bound.Bound.{Bound}
use Rattle.wat_ast.specs.declared.expression.BinaryOp.{BinaryOp}
use Rattle.wat_interval.specs.declared.edge.End.{End}
use Rattle.wat_interval.specs.declared.edge.End.TheVariants.{Lower, Upper}
use Rattle.wat_interval.specs.declared.test.Test.{Test}
use Rattle.wat_interval.specs.Intervals.{Edge, from_below, from_above, greater_edge, lesser_edge, bound_of}

abbrev pub included_at : End → BinaryOp → Option Bool
included_at Lower op = from_below op
included_at Upper op = from_above op

abbrev pub edge_at : End → Test → Option Edge
edge_at end t = option_map (λ included. record { value = t.value; included = included }) (included_at end t.op)

abbrev pub tighter_at : End → Edge → Edge → Edge
tighter_at Lower a b = greater_edge a b
tighter_at Upper a b = lesser_edge a b

abbrev pub tightest_at : End → List Test → Option Edge
tightest_at end tests = reduce (tighter_at end) (filter_map (edge_at end) tests)

-- the tighter of what was found so far, if anything was, and one edge more, if there is one
abbrev pub joined_at : End → Option Edge → Option Edge → Option Edge
joined_at end found None = found
joined_at end None (Some e) = Some e
joined_at end (Some a) (Some e) = Some (tighter_at end a e)

abbrev pub bound_at : End → List (List Test) → Bound
bound_at end columns = bound_of (map (tightest_at end) columns)
