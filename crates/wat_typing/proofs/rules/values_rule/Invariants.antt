use Rattle.std.proofs.Common.{◌≡◌, map, drop}
use Rattle.std.specs.List.{fold}
use Rattle.wat_types.specs.Types.{lesser}
use Rattle.wat_typing.specs.Rules.{value_rule, values_rule}
use Rattle.wat_typing.proofs.rules.values_rule.Given as goal

abbrev pub invariant-loop-value : goal.invariant-loop-value
invariant-loop-value l = fold lesser l.least (map value_rule (drop l.value-index l.fn.values)) ≡ values_rule l.fn.values
