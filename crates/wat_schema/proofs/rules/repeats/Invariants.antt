use Rattle.std.proofs.Common.{◌≡◌, length}
use Rattle.wat_schema.specs.Catalog.{repeats}
use Rattle.wat_schema.proofs.rules.repeats.Given as goal

abbrev pub invariant-loop-first : goal.invariant-loop-first
invariant-loop-first g l = repeats g.T.PartialEq.eq l.rest ≡ repeats g.T.PartialEq.eq l.items

abbrev pub decreases-loop-first : goal.decreases-loop-first
decreases-loop-first g l = length l.rest
