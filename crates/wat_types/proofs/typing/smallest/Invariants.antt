use Rattle.std.proofs.Common.{◌≡◌, drop}
use Rattle.std.specs.List.{fold}
use Rattle.wat_types.specs.Types.{lesser, smallest}
use Rattle.wat_types.proofs.typing.smallest.Given as goal

abbrev pub invariant-loop-rule : goal.invariant-loop-rule
invariant-loop-rule l = fold lesser l.least (drop l.rule-index l.fn.rules) ≡ smallest l.fn.rules
