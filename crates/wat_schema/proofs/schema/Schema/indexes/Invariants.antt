use Rattle.std.proofs.Common.{◌≡◌, take}
use Rattle.std.specs.List.{flat_map}
use Rattle.wat_schema.proofs.schema.Schema.indexes.Given as goal

abbrev pub invariant-loop-entry : goal.invariant-loop-entry
invariant-loop-entry l = l.indexes ≡ flat_map (λ t. t.indexes) (take l.entry-index l.entry-items)
