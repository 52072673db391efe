use Rattle.std.proofs.Common.{◌≡◌, map, drop}
use Rattle.std.specs.List.{fold}
use Rattle.wat_types.specs.declared.typing.Typing.{Typing}
use Rattle.wat_types.specs.Types.{lesser}
use Rattle.wat_types.proofs.typing.broken_among.Given as goal

abbrev pub invariant-loop-item : goal.invariant-loop-item
invariant-loop-item l = fold lesser l.least (map (λ (item : Typing). item.broken) (drop l.item-index l.fn.items)) ≡ fold lesser l.fn.first (map (λ (item : Typing). item.broken) l.fn.items)
