use Rattle.std.proofs.Common.{◌≡◌, map, drop}
use Rattle.std.specs.List.{fold}
use Rattle.wat_types.specs.declared.typing.Typing.{Typing}
use Rattle.wat_types.specs.Types.{lesser}
use Rattle.wat_typing.specs.Rules.{columns_rule}
use Rattle.wat_typing.proofs.rules.columns_rule.Given as goal

abbrev pub invariant-loop-column : goal.invariant-loop-column
invariant-loop-column l = fold lesser l.least (map (λ (column : Typing). column.broken) (drop l.column-index l.fn.columns)) ≡ columns_rule l.fn.columns
