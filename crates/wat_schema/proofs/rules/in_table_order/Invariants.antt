use Rattle.std.proofs.Common.{◌≡◌, length}
use Rattle.wat_schema.specs.Making.{in_table_order}
use Rattle.wat_schema.proofs.rules.in_table_order.Given as goal

abbrev pub invariant-loop-first : goal.invariant-loop-first
invariant-loop-first l = in_table_order l.low l.rest ≡ in_table_order 0 l.indexes

abbrev pub decreases-loop-first : goal.decreases-loop-first
decreases-loop-first l = length l.rest
