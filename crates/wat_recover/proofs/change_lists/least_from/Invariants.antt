use Rattle.std.proofs.Common.{take}
use Rattle.wat_recover.specs.Listed.{lists_of, IsLeastFrom}
use Rattle.wat_recover.proofs.change_lists.least_from.Given as goal

abbrev pub invariant-loop-s : goal.invariant-loop-s
invariant-loop-s l = IsLeastFrom l.from (lists_of (take l.s-index l.standing)) l.least
