use Rattle.std.proofs.Common.{◌≡◌, replicate}
use Rattle.wat_gen.specs.Numbers.{Gives}
use Rattle.wat_gen.specs.Schedule.{drawn_turn, turn_of}
use Rattle.wat_gen.proofs.Drawing.{behind}
use Rattle.wat_gen.proofs.schedule.draw_schedule.Given as goal

abbrev pub invariant-loop : goal.invariant-loop
invariant-loop l = l.items ≡ replicate l.counter (turn_of 1)

abbrev pub invariant-loop-2 : goal.invariant-loop-2
invariant-loop-2 l =
    Gives (behind (replicate 103 (turn_of 1)) l.counter drawn_turn) l.fn.draws.number l.items l.draws.number
