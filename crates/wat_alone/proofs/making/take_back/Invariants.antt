use Rattle.std.proofs.Common.{◌≡◌, length}
use Rattle.wat_alone.specs.Alone.{taken_back}
use Rattle.wat_alone.proofs.making.take_back.Given as goal

abbrev pub invariant-loop-change : goal.invariant-loop-change
invariant-loop-change l = taken_back l.left l.tables ≡ taken_back l.initial.left l.initial.tables

abbrev pub decreases-loop-change : goal.decreases-loop-change
decreases-loop-change l = length l.left
