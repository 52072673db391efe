use Rattle.std.proofs.Common.{◌≡◌, take}
use Rattle.wat_written.specs.Written.{names_at}
use Rattle.wat_written.proofs.columns.names_at.Given as goal

abbrev pub invariant-loop-number : goal.invariant-loop-number
invariant-loop-number l = l.names ≡ names_at l.fn.def (take l.number-index l.fn.numbers)
