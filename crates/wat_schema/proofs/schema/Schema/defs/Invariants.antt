use Rattle.std.proofs.Common.{◌≡◌, map, take}
use Rattle.wat_schema.proofs.schema.Schema.defs.Given as goal

abbrev pub invariant-loop-entry : goal.invariant-loop-entry
invariant-loop-entry l = l.defs ≡ map (λ t. t.def) (take l.entry-index l.entry-items)
