use Rattle.std.proofs.Common.{◌≡◌, drop}
use Rattle.std.specs.List.{flat_map}
use Rattle.wat_names.specs.Refusals.{first}
use Rattle.wat_names.specs.Columns.{needed, needed_sources}
use Rattle.wat_names.proofs.columns.needed_sources.Given as goal

abbrev pub invariant-loop-source : goal.invariant-loop-source
invariant-loop-source l =
    first (flat_map (λ source. needed l.fn.schema source.table) (drop l.source-index l.source-items)) ≡ first (needed_sources l.fn.schema l.fn.query)
