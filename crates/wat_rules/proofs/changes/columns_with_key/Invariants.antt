use Rattle.std.proofs.Common.{◌≡◌, map, take}
use Rattle.wat_rules.specs.Changes.{with_key}
use Rattle.wat_rules.proofs.changes.columns_with_key.Given as goal

abbrev pub invariant-loop-column : goal.invariant-loop-column
invariant-loop-column l = l.made ≡ map (with_key l.fn.key) (take l.column-index l.fn.columns)
