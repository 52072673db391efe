use Rattle.std.proofs.Common.{◌≡◌, drop}
use Rattle.std.specs.List.{flat_map}
use Rattle.wat_names.specs.Refusals.{first}
use Rattle.wat_names.specs.Columns.{in_set}
use Rattle.wat_names.proofs.columns.in_sets.Given as goal

abbrev pub invariant-loop-set : goal.invariant-loop-set
invariant-loop-set l =
    first (flat_map (in_set l.fn.schema l.fn.scope) (drop l.set-index l.fn.sets)) ≡ first (flat_map (in_set l.fn.schema l.fn.scope) l.fn.sets)
