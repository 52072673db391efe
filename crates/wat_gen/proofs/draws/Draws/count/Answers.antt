use Rattle.std.proofs.Common.{ℕ, ◌+◌, refl}
use Rattle.wat_gen.specs.declared.statement.Statement.TheVariants.{Count}
use Rattle.wat_gen.specs.Numbers.{draw, given}
use Rattle.wat_gen.specs.Statements.{drawn_count}
use Rattle.wat_gen.proofs.Drawing.{gives_bind}
use Rattle.wat_gen.proofs.draws.Draws.count.Goals as goal

pub returns : goal.returns
unfolding drawn_count
returns c =
    gives_bind (draw 100) (λ (a : ℕ). given (Count a (a + 9))) _ _ _ _ _ c.draw-low.ensures.drawn refl
