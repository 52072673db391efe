use Rattle.std.proofs.Common.{◌≡◌, take}
use Rattle.std.specs.List.{list_any}
use Rattle.wat_walk.specs.Parts.{Spot}
use Rattle.wat_typing.specs.Rules.{spot_eq}
use Rattle.wat_typing.proofs.rules.spot_set.Given as goal

abbrev pub invariant-loop-column : goal.invariant-loop-column
invariant-loop-column l = (spot : Spot) → list_any (spot_eq spot) l.set.keys ≡ list_any (spot_eq spot) (take l.column-index l.fn.columns)
