use Rattle.std.proofs.Common.{◌≡◌, length}
use Rattle.wat_schema.specs.Catalog.{repeats}
use Rattle.wat_schema.specs.Definitions.{same_name}
use Rattle.wat_schema.proofs.rules.repeats_name.Given as goal

abbrev pub invariant-loop-first : goal.invariant-loop-first
invariant-loop-first l = repeats same_name l.rest ≡ repeats same_name l.columns

abbrev pub decreases-loop-first : goal.decreases-loop-first
decreases-loop-first l = length l.rest
