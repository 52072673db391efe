use Rattle.std.proofs.Common.{◌-◌}
use Rattle.wat_gen.proofs.Drawing.{AreDrawn}
use Rattle.wat_gen.proofs.made_up.draw_scripts.Given as goal

abbrev pub invariant-loop-script : goal.invariant-loop-script
invariant-loop-script l =
    AreDrawn l.count (l.script - 1) l.fn.draws.number l.scripts l.draws.number
