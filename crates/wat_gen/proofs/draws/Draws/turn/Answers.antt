use Rattle.std.proofs.Common.{ℕ, ◌+◌, refl}
use Rattle.wat_gen.specs.Numbers.{draw, given}
use Rattle.wat_gen.specs.Schedule.{drawn_turn, turn_of}
use Rattle.wat_gen.proofs.Drawing.{gives_bind}
use Rattle.wat_gen.proofs.draws.Draws.turn.Goals as goal

pub returns : goal.returns
unfolding drawn_turn
returns c = gives_bind (draw 8) (λ (a : ℕ). given (turn_of (a + 1))) _ _ _ _ _ c.draw.ensures.drawn refl
