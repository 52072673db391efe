use Rattle.std.proofs.Common.{◌≡◌, map, take}
use Rattle.wat_typing.specs.Rules.{column_type}
use Rattle.wat_typing.proofs.rules.types_in.Given as goal

abbrev pub invariant-loop-column : goal.invariant-loop-column
invariant-loop-column l = l.types ≡ map column_type (take l.column-index l.column-items)
