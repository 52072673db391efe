use Rattle.std.proofs.Common.{◌≡◌, drop}
use Rattle.wat_level.specs.Placed.{placed_all}
use Rattle.wat_level.specs.Change.{spot_wants, change_wants}
use Rattle.std.specs.List.{flat_map}
use Rattle.wat_level.proofs.change.change_wants.Given as goal

abbrev pub invariant-loop-spot : goal.invariant-loop-spot
invariant-loop-spot l = placed_all l.wants.items (flat_map (spot_wants l.table) (drop l.spot-index l.spots)) ≡ change_wants l.def l.change l.spots
