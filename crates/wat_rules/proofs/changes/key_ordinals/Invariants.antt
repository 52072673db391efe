use Rattle.std.proofs.Common.{◌≡◌, map, take}
use Rattle.wat_schema.specs.Definitions.{number_named}
use Rattle.wat_rules.proofs.changes.key_ordinals.Given as goal

abbrev pub invariant-loop-name : goal.invariant-loop-name
invariant-loop-name l = l.ordinals ≡ map (number_named l.fn.columns) (take l.name-index l.fn.key)
