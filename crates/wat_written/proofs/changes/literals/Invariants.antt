use Rattle.std.proofs.Common.{◌≡◌, take}
use Rattle.wat_written.specs.Written.{literals}
use Rattle.wat_written.proofs.changes.literals.Given as goal

abbrev pub invariant-loop-value : goal.invariant-loop-value
invariant-loop-value l = l.exprs ≡ literals (take l.value-index l.fn.row)
