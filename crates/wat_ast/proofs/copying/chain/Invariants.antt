use Rattle.std.proofs.Common.{◌≡◌, length}
use Rattle.wat_ast.specs.Chain.{grown}
use Rattle.wat_ast.proofs.copying.chain.Given as goal

abbrev pub invariant-loop-operation : goal.invariant-loop-operation
invariant-loop-operation l = grown l.tree l.operations.items ≡ grown l.fn.first l.fn.operations.items

abbrev pub decreases-loop-operation : goal.decreases-loop-operation
decreases-loop-operation l = length l.operations.items
