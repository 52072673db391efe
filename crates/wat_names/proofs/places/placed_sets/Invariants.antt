use Rattle.std.proofs.Common.{◌≡◌, map, take}
use Rattle.wat_names.specs.Places.{placed_set}
use Rattle.wat_names.proofs.places.placed_sets.Given as goal

abbrev pub invariant-loop-set : goal.invariant-loop-set
invariant-loop-set l = l.items ≡ map (placed_set l.fn.schema l.fn.scope) (take l.set-index l.fn.sets)
