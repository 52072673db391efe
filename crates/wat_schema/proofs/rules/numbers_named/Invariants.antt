use Rattle.std.proofs.Common.{◌≡◌, map, take}
use Rattle.wat_schema.specs.Definitions.{number_named}
use Rattle.wat_schema.proofs.rules.numbers_named.Given as goal

abbrev pub invariant-loop-name : goal.invariant-loop-name
invariant-loop-name l = l.numbers.items ≡ map (number_named l.columns) (take l.name-index l.names)
