use Rattle.std.proofs.Common.{◌≡◌, take}
use Rattle.wat_machine.proofs.copied.Given as goal

abbrev pub invariant-loop-value : goal.invariant-loop-value
invariant-loop-value l = l.row ≡ take l.value-index l.fn.values
