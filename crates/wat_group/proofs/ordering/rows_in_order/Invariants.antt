use Rattle.std.proofs.Common.{◌≡◌, ◌++◌, map}
use Rattle.std.specs.Vec.Iter.{into_iter_items}
use Rattle.wat_group.specs.declared.line.Line.{Line}
use Rattle.wat_group.proofs.ordering.rows_in_order.Given as goal

abbrev pub invariant-loop-line : goal.invariant-loop-line
invariant-loop-line l = l.rows ++ map (λ (line : Line). line.row) (into_iter_items l.line-iterator) ≡ map (λ (line : Line). line.row) (into_iter_items l.initial.line-iterator)
