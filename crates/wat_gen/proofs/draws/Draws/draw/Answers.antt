use Rattle.wat_gen.proofs.Drawing.{draw_steps}
use Rattle.wat_gen.proofs.draws.Draws.draw.Goals as goal

pub returns-clause-drawn : goal.returns-clause-drawn
returns-clause-drawn c = draw_steps c.args.below c.args.self.now.number
