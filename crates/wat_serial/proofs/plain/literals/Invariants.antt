use Rattle.std.proofs.Common.{◌≡◌, take}
use Rattle.wat_serial.specs.Plain.{literals}
use Rattle.wat_serial.proofs.plain.literals.Given as goal

abbrev pub invariant-loop-expr : goal.invariant-loop-expr
invariant-loop-expr l = take l.expr-index l.exprs ≡ literals l.row.items
