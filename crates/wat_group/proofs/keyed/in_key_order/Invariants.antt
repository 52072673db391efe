use Rattle.std.proofs.Common.{◌≡◌, ◌++◌, map, drop}
use Rattle.wat_group.specs.Query.{keys_at}
use Rattle.wat_walk.specs.Lent.{lent}
use Rattle.wat_group.specs.Private.{keyed_as, rows_in, under}
use Rattle.wat_group.proofs.keyed.in_key_order.Given as goal

abbrev pub invariant-loop-rows : goal.invariant-loop-rows
invariant-loop-rows l = keyed_as l.keyed.items ++ map (under (keys_at l.defs)) (drop l.rows-index l.rows-items) ≡ map (under (keys_at l.defs)) l.rows-items

abbrev pub invariant-loop-entry : goal.invariant-loop-entry
invariant-loop-entry l = lent l.ordered.items ++ rows_in (drop l.entry-index l.entry-items) ≡ rows_in l.entry-items
