use Rattle.std.proofs.Common.{◌≡◌, ◌++◌, drop}
use Rattle.wat_indexed.proofs.source.copied.Given as goal

abbrev pub invariant-loop-value : goal.invariant-loop-value
invariant-loop-value l = l.row ++ drop l.value-index l.values ≡ l.values
