use Rattle.std.proofs.Common.{◌≡◌, ◌++◌, take, drop}
use Rattle.wat_level.specs.Placed.{placed}
use Rattle.wat_level.proofs.change.place_want.Given as goal

abbrev pub invariant-loop-i : goal.invariant-loop-i
invariant-loop-i l = (l.wants.items ≡ l.fn.wants.items) × (take l.i l.wants.items ++ placed l.want (drop l.i l.wants.items) ≡ placed l.want l.wants.items)
