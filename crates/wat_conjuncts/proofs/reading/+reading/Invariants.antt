use Rattle.std.proofs.Common.{◌≡◌, ◌+◌, ◌*◌, true, take, drop}
use Rattle.std.specs.List.{fold, list_all}
use Rattle.wat_walk.specs.declared.spine.Operation.{Operation}
use Rattle.wat_conjuncts.specs.Limits.{reads_only}
use Rattle.wat_conjuncts.proofs.ReadingLemmas.{both}
use Rattle.wat_conjuncts.proofs.reading.+reading.Given as goal

abbrev pub decreases-reads_only : goal.decreases-reads_only
decreases-reads_only l = 3 * goal.size-reads_only l + 1

abbrev pub decreases-operand_reads_only : goal.decreases-operand_reads_only
decreases-operand_reads_only l = 3 * goal.size-operand_reads_only l

abbrev pub decreases-all_read_only : goal.decreases-all_read_only
decreases-all_read_only l = 3 * goal.size-all_read_only l + 2

abbrev pub invariant-reads_only-loop-operation : goal.invariant-reads_only-loop-operation
invariant-reads_only-loop-operation l = fold (λ left (o : Operation). both o.op left (reads_only l.sources o.right.now)) l.all (drop l.operation-index l.operation-items) ≡ reads_only l.sources l.fn.expr

abbrev pub invariant-all_read_only-loop-expr : goal.invariant-all_read_only-loop-expr
invariant-all_read_only-loop-expr l = list_all (reads_only l.sources) (take l.expr-index l.fn.exprs) ≡ true
