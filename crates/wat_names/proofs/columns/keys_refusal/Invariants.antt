use Rattle.std.proofs.Common.{◌≡◌, drop}
use Rattle.std.specs.List.{flat_map}
use Rattle.wat_names.specs.Refusals.{first}
use Rattle.wat_names.specs.Columns.{key_refusal}
use Rattle.wat_names.proofs.columns.keys_refusal.Given as goal

abbrev pub invariant-loop-set : goal.invariant-loop-set
invariant-loop-set l =
    first (flat_map (key_refusal l.fn.schema l.fn.table) (drop l.set-index l.fn.sets)) ≡ first (flat_map (key_refusal l.fn.schema l.fn.table) l.fn.sets)
