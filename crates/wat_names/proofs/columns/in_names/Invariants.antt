use Rattle.std.proofs.Common.{◌≡◌, drop, None}
use Rattle.std.specs.List.{flat_map}
use Rattle.wat_names.specs.Refusals.{first}
use Rattle.wat_names.specs.Columns.{column_refusals, in_names}
use Rattle.wat_names.proofs.columns.in_names.Given as goal

abbrev pub invariant-loop-name : goal.invariant-loop-name
invariant-loop-name l =
    first (flat_map (λ name. column_refusals l.fn.schema l.fn.scope (None, name)) (drop l.name-index l.fn.names)) ≡ first (in_names l.fn.schema l.fn.scope l.fn.names)
