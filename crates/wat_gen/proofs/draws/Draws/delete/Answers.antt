use Rattle.std.proofs.Common.{ℕ, refl}
use Rattle.wat_gen.specs.declared.statement.Statement.TheVariants.{Delete}
use Rattle.wat_gen.specs.Numbers.{draw, given}
use Rattle.wat_gen.specs.Statements.{drawn_delete}
use Rattle.wat_gen.proofs.Drawing.{gives_bind}
use Rattle.wat_gen.proofs.draws.Draws.delete.Goals as goal

pub returns : goal.returns
unfolding drawn_delete
returns c = gives_bind (draw 1000) (λ (a : ℕ). given (Delete a)) _ _ _ _ _ c.draw-k.ensures.drawn refl
