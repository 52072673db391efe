use Rattle.std.proofs.Common.{◌≡◌, reverse}
use Rattle.wat_walk.specs.Chain.{chain}
use Rattle.wat_walk.proofs.spine.Spine.of.Given as goal

abbrev pub invariant-loop-first : goal.invariant-loop-first
invariant-loop-first l = chain l.first (reverse l.operations.items) ≡ l.fn.expr
