use Rattle.std.proofs.Common.{◌≡◌, ◌≤◌, ◌+◌, ◌*◌, max, ◌∷◌, ◌++◌, drop, length}
use Rattle.std.specs.List.{flat_map}
use Rattle.wat_ast.specs.declared.expression.Expr.{size-Expr}
use Rattle.wat_ast.specs.declared.expression.Expr.TheVariants as e
use Rattle.wat_spell.specs.Spelling.{spelled, placed, expression, comma}
use Rattle.wat_spell.specs.Growing.{puts}
use Rattle.wat_spell.proofs.Chains.{operations, depth}
use Rattle.wat_spell.proofs.expression.+spelling.Given as goal

abbrev pub decreases-expression : goal.decreases-expression
decreases-expression l = 4 * goal.size-expression l + 1

abbrev pub decreases-placed : goal.decreases-placed
decreases-placed l = 4 * goal.size-placed l + 2

abbrev pub decreases-argument : goal.decreases-argument
decreases-argument l = 4 * goal.size-argument l + 3

abbrev pub decreases-chain : goal.decreases-chain
decreases-chain l = 4 * max (size-Expr l.left.now) (size-Expr l.right.now) + 3

abbrev pub decreases-more_expressions : goal.decreases-more_expressions
decreases-more_expressions l = 4 * goal.size-more_expressions l + 3

abbrev pub decreases-expressions : goal.decreases-expressions
decreases-expressions l = 4 * goal.size-expressions l + 4

-- the first operand and the operations are those of the whole chain
abbrev pub invariant-chain-down : goal.invariant-chain-down
invariant-chain-down l = record {
  tokens : (placed l.place (spelled l.first)).tokens ++ operations l.operations.items ≡ expression (e.Binary l.fn.op l.fn.left l.fn.right);
  first : size-Expr l.first ≤ size-Expr l.fn.left;
  right : depth l.operations.items ≤ max (size-Expr l.fn.left) (size-Expr l.fn.right);
}

abbrev pub invariant-chain-up : goal.invariant-chain-up
invariant-chain-up l = record {
  tokens : puts l.writing (operations l.operations.items) ≡ puts l.fn.writing (expression (e.Binary l.fn.op l.fn.left l.fn.right));
  right : depth l.operations.items ≤ max (size-Expr l.fn.left) (size-Expr l.fn.right);
}

abbrev pub decreases-chain-up : goal.decreases-chain-up
decreases-chain-up l = length l.operations.items

-- what is there so far, and the tokens of what is left
abbrev pub invariant-more_expressions-loop-expr : goal.invariant-more_expressions-loop-expr
invariant-more_expressions-loop-expr l =
    puts l.writing (flat_map (λ expr. comma ∷ expression expr) (drop l.expr-index l.exprs))
    ≡ puts l.fn.writing (flat_map (λ expr. comma ∷ expression expr) l.fn.exprs)
