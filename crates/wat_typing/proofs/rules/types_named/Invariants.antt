use Rattle.std.proofs.Common.{◌≡◌, map, take}
use Rattle.wat_typing.specs.Rules.{type_named}
use Rattle.wat_typing.proofs.rules.types_named.Given as goal

abbrev pub invariant-loop-name : goal.invariant-loop-name
invariant-loop-name l = l.types ≡ map (type_named l.fn.schema l.fn.table) (take l.name-index l.fn.names)
