use Rattle.wat_syntax.proofs.Placed.{tree_exact, one_tree, goes_wrong}
use Rattle.wat_syntax.proofs.law.parsing_is_exact.Goals as goal

pub returns-clause-tree : goal.returns-clause-tree
returns-clause-tree c = tree_exact

pub returns-clause-only : goal.returns-clause-only
returns-clause-only c = one_tree

pub returns-clause-fault : goal.returns-clause-fault
returns-clause-fault c = goes_wrong
