use Rattle.std.proofs.Common.{take}
use Rattle.wat_list.specs.Has.{Has}
use Rattle.wat_locks.specs.Tables.{holders}
use Rattle.wat_locks.proofs.locks.place_of.Given as goal

abbrev pub invariant-loop-i : goal.invariant-loop-i
invariant-loop-i l = Has l.by (holders (take l.i l.tables)) → ⊥
